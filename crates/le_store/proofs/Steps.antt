-- The invariant of a store over each of its steps.
use Rattle.std.proofs.Common.{◌≡◌, ℕ, zero, suc, Bool, true, false, cond, ◌==◌, ◌+◌, ◌<◌, ◌≤◌, List, [], ◌∷◌, ◌++◌, length, map, get_or, take, set, slice_get, Option, Some, None, refl, sym, ap, subst, ◌∙◌, arith, true≢false, inl, inr, ◌⊎◌}
use Rattle.std.specs.List.{AllByRecursion}
use Rattle.std.proofs.lemmas.Bool.{cases_lt}
use Rattle.std.proofs.lemmas.Bool.Decides.{Decides-eqb}
use Rattle.std.proofs.lemmas.Cmp.{nat_eq_equiv}
use Rattle.std.proofs.lemmas.List.{get_or_append_left, get_or_push, get_or_past, map-append, length_push, length-map, take_all, take-take, take-map, get_or-take, set-get_or, map-set, get_or-map, get_or-set_same, get_or-set_other, length-take-le}
use Rattle.std.proofs.Math.ListN as lists
use Rattle.le_terms.specs.Tree.{Tree, variable, nil}
use Rattle.le_terms.specs.Variables.{replaced}
use Rattle.le_subst.specs.Solution.{occurs}
use Rattle.le_store.specs.declared.cells.Cell.{Cell}
use Rattle.le_store.specs.declared.cells.Cell.TheVariants.{Name, Num, Day, Nil, Cons, Link, Var, Bound}
use Rattle.le_store.specs.declared.cells.Entry.{Entry}
use Rattle.le_store.specs.declared.cells.Lengths.{Lengths}
use Rattle.le_store.specs.Shown.{Room, Shown, IsUnbound}
use Rattle.le_store.specs.Cells.{written, tree_after, trees_in, extended, values_under, variable_cells, shown_cells, shown_at, target, binding_at}
use Rattle.le_store.specs.State.{IsCellAfter, AreCells, Fits, AreDistinct, AreApart, AreBindings, IsMark, AreBelow, Agrees, IsStore}
use Rattle.le_store.proofs.CellTrees.{all_map, all_push, all_take, AreApart-push, tree_at, length-trees_from}
use Rattle.le_store.proofs.Variables.{IsVariable, IsPlace, place_of}
use Rattle.le_store.proofs.Bound.{IsBound, bound_by}
use Rattle.le_store.proofs.Stores.{map_same, AreCells-push, AreBindings-push, IsMark-cell, IsMark-binding}

-- what stands in a written cell
pub get-written : (cells : List Cell) (at : ℕ) → get_or (map written cells) at Nil ≡ written (get_or cells at Nil)
get-written cells at = lists.get_or-map written cells at Nil

-- one cell more: it agrees with the bindings
Agrees-push : (cells : List Cell) (trail : List Entry) (last : Cell) → Agrees cells trail → target last ≡ None → Agrees (cells ++ last ∷ []) trail
Agrees-push cells trail last agrees free at = by_place (cases_lt at (length cells))
  where
    past : length cells ≤ at → None ≡ binding_at trail at
    past above = ap target (sym (get_or_past cells at Nil above)) ∙ agrees at

    by_above : (length cells ≡ at) ⊎ (length cells + 1 ≤ at) → length cells ≤ at → target (get_or (cells ++ last ∷ []) at Nil) ≡ binding_at trail at
    by_above (inl here) above = ap target (get_or_push cells last Nil at here) ∙ (free ∙ past above)
    by_above (inr later) above = ap target (get_or_past (cells ++ last ∷ []) at Nil (omega (arith, length_push cells last))) ∙ past above

    split : length cells ≤ at → (length cells ≡ at) ⊎ (length cells + 1 ≤ at)
    split above = here_or_later (cases_lt (length cells) at)
      where
        here_or_later : (length cells < at) ⊎ (at ≤ length cells) → (length cells ≡ at) ⊎ (length cells + 1 ≤ at)
        here_or_later (inl lt) = inr (omega arith)
        here_or_later (inr le) = inl (omega arith)

    by_place : (at < length cells) ⊎ (length cells ≤ at) → target (get_or (cells ++ last ∷ []) at Nil) ≡ binding_at trail at
    by_place (inl below) = ap target (get_or_append_left cells (last ∷ []) Nil at below) ∙ agrees at
    by_place (inr above) = by_above (split above) above

-- the cells as they were written, with one more
pub written-push : (cells : List Cell) (last : Cell) → written last ≡ last → map written (cells ++ last ∷ []) ≡ map written cells ++ last ∷ []
written-push cells last same = map-append written cells (last ∷ []) ∙ ap (λ c. map written cells ++ c ∷ []) same

pub IsStore-push : (cells : List Cell) (trail : List Entry) (marks : List Lengths) (vars more : ℕ) (last : Cell) → IsStore cells trail marks vars
    → written last ≡ last → target last ≡ None
    → IsCellAfter (length (map written cells)) (length (variable_cells 0 (map written cells))) last
    → more ≡ length (variable_cells 0 (map written cells ++ last ∷ []))
    → IsStore (cells ++ last ∷ []) trail marks more
IsStore-push cells trail marks vars more last h same free is_cell counted =
    let P : List Cell → Type 0 = AreCells in
    let Q : List Cell → Type 0 = λ cs. AreBindings cs trail in
    let R : List Cell → Type 0 = λ cs. AllByRecursion (IsMark cs trail) marks in
    record {
      cells_ = subst P (sym (written-push cells last same)) (AreCells-push (map written cells) last h.cells_ is_cell);
      bindings = subst Q (sym (written-push cells last same)) (AreBindings-push (map written cells) trail last h.bindings);
      agrees = Agrees-push cells trail last h.agrees free;
      vars_ = counted ∙ ap (λ cs. length (variable_cells 0 cs)) (sym (written-push cells last same));
      marks_ = subst R (sym (written-push cells last same)) (all_map (IsMark (map written cells) trail) (IsMark (map written cells ++ last ∷ []) trail) (IsMark-cell (map written cells) trail last) marks h.marks_);
      order = h.order;
    }

-- one binding more: the cells as they were written stay
pub written-bound : (cells : List Cell) (var v to : ℕ) → get_or cells var Nil ≡ Var v → map written (set cells var (Bound v to)) ≡ map written cells
written-bound cells var v to is_var =
    map-set written cells var (Bound v to)
    ∙ (ap (set (map written cells) var) (sym (get-written cells var ∙ ap written is_var)) ∙ set-get_or (map written cells) var Nil)

binding-push : (entries : List Entry) (last : Entry) (at : ℕ) → ((last.var == at) ≡ false) → binding_at (entries ++ last ∷ []) at ≡ binding_at entries at
binding-push [] last at other = ap (λ b. cond b (Some last.to) None) other
binding-push (entry ∷ entries) last at other = ap (λ o. cond (entry.var == at) (Some entry.to) o) (binding-push entries last at other)

binding-own : (entries : List Entry) (last : Entry) (at : ℕ) → ((last.var == at) ≡ true) → binding_at entries at ≡ None → binding_at (entries ++ last ∷ []) at ≡ Some last.to
binding-own [] last at own none = ap (λ b. cond b (Some last.to) None) own
binding-own (entry ∷ entries) last at own none = by_test (entry.var == at) none (binding-own entries last at own)
  where
    by_test : (b : Bool) → cond b (Some entry.to) (binding_at entries at) ≡ None → (binding_at entries at ≡ None → binding_at (entries ++ last ∷ []) at ≡ Some last.to)
        → cond b (Some entry.to) (binding_at (entries ++ last ∷ []) at) ≡ Some last.to
    by_test true found more = absurd (cc found)
    by_test false none_following more = more none_following

AreDistinct-push : (entries : List Entry) (last : Entry) → AreDistinct entries → binding_at entries last.var ≡ None → AreDistinct (entries ++ last ∷ [])
AreDistinct-push [] last h none = (refl, tt)
AreDistinct-push (entry ∷ entries) last h none =
    let parts : ((entry.var == last.var) ≡ false) × (binding_at entries last.var ≡ None) = none_parts (entry.var == last.var) none in
    (binding-push entries last entry.var (nat_eq_equiv.symm last.var entry.var ∙ parts.0) ∙ h.0, AreDistinct-push entries last h.1 parts.1)
  where
    none_parts : (b : Bool) → cond b (Some entry.to) (binding_at entries last.var) ≡ None → (b ≡ false) × (binding_at entries last.var ≡ None)
    none_parts true found = absurd (cc found)
    none_parts false none_following = (refl, none_following)

Agrees-bound : (cells : List Cell) (trail : List Entry) (var v to : ℕ) → Agrees cells trail → var < length cells → get_or cells var Nil ≡ Var v
    → Agrees (set cells var (Bound v to)) (trail ++ record { var = var; number = v; to = to } ∷ [])
Agrees-bound cells trail var v to agrees within is_var at = by_test (var == at) refl
  where
    by_test : (b : Bool) → (var == at) ≡ b → target (get_or (set cells var (Bound v to)) at Nil) ≡ binding_at (trail ++ record { var = var; number = v; to = to } ∷ []) at
    by_test true own =
        let here : var ≡ at = (Decides-eqb var at).0 own in
        let P : ℕ → Type 0 = λ k. target (get_or (set cells var (Bound v to)) k Nil) ≡ Some to in
        let none : binding_at trail at ≡ None = sym (agrees at) ∙ (ap (λ k. target (get_or cells k Nil)) (sym here) ∙ ap target is_var) in
        subst P here (ap target (get_or-set_same cells var (Bound v to) Nil within)) ∙ sym (binding-own trail (record { var = var; number = v; to = to }) at own none)
    by_test false other =
        ap target (get_or-set_other cells var at (Bound v to) Nil (λ same. true≢false (sym ((Decides-eqb var at).1 (sym same)) ∙ other)))
        ∙ (agrees at ∙ sym (binding-push trail (record { var = var; number = v; to = to }) at other))

pub IsStore-bound : (cells : List Cell) (trail : List Entry) (marks : List Lengths) (vars var v to : ℕ) → IsStore cells trail marks vars
    → var < length cells → get_or cells var Nil ≡ Var v → to < length cells
    → values_under (map written cells) trail v ≡ variable v
    → occurs v (replaced (values_under (map written cells) trail) (get_or (trees_in (map written cells)) to nil)) ≡ false
    → IsStore (set cells var (Bound v to)) (trail ++ record { var = var; number = v; to = to } ∷ []) marks vars
IsStore-bound cells trail marks vars var v to h within is_var there free apart =
    let same : map written (set cells var (Bound v to)) ≡ map written cells = written-bound cells var v to is_var in
    let entry : Entry = record { var = var; number = v; to = to } in
    let bindings : AreBindings (map written cells) (trail ++ entry ∷ []) = record {
      fit = all_push (Fits (map written cells)) trail entry h.bindings.fit (record {
        var_there = omega (arith, length-map cells written);
        var = get-written cells var ∙ ap written is_var;
        to = omega (arith, length-map cells written);
      });
      distinct = AreDistinct-push trail entry h.bindings.distinct (sym (h.agrees var) ∙ ap target is_var);
      apart = AreApart-push (trees_in (map written cells)) variable trail entry h.bindings.apart free apart;
    } in
    let Q : List Cell → Type 0 = λ cs. AreBindings cs (trail ++ entry ∷ []) in
    let R : List Cell → Type 0 = λ cs. AllByRecursion (IsMark cs (trail ++ entry ∷ [])) marks in
    record {
      cells_ = subst AreCells (sym same) h.cells_;
      bindings = subst Q (sym same) bindings;
      agrees = Agrees-bound cells trail var v to h.agrees within is_var;
      vars_ = h.vars_ ∙ ap (λ cs. length (variable_cells 0 cs)) (sym same);
      marks_ = subst R (sym same) (all_map (IsMark (map written cells) trail) (IsMark (map written cells) (trail ++ entry ∷ [])) (IsMark-binding (map written cells) trail entry) marks h.marks_);
      order = h.order;
    }

-- one mark more
AreBelow-push : (cells trail : ℕ) (marks : List Lengths) (last : Lengths) → AreBelow cells trail marks
    → AllByRecursion (λ mark. (mark.cells ≤ last.cells) × (mark.trail ≤ last.trail)) marks → cells ≤ last.cells → trail ≤ last.trail → AreBelow cells trail (marks ++ last ∷ [])
AreBelow-push cells trail [] last h all c t = (c, t, tt)
AreBelow-push cells trail (mark ∷ marks) last h all c t = (h.0, h.1, AreBelow-push mark.cells mark.trail marks last h.2 all.1 all.0.0 all.0.1)

pub IsStore-mark : (cells : List Cell) (trail : List Entry) (marks : List Lengths) (vars : ℕ) → IsStore cells trail marks vars
    → IsStore cells trail (marks ++ record { cells = length cells; trail = length trail; vars = vars } ∷ []) vars
IsStore-mark cells trail marks vars h =
    let last : Lengths = record { cells = length cells; trail = length trail; vars = vars } in
    let all_cells : take (length cells) (map written cells) ≡ map written cells = take_all (length cells) (map written cells) (omega (arith, length-map cells written)) in
    let all_trail : take (length trail) trail ≡ trail = take_all (length trail) trail (omega arith) in
    let P : List Cell → Type 0 = λ cs. AreBindings cs (take (length trail) trail) in
    let Q : List Entry → Type 0 = λ es. AreBindings (map written cells) es in
    record {
      cells_ = h.cells_;
      bindings = h.bindings;
      agrees = h.agrees;
      vars_ = h.vars_;
      marks_ = all_push (IsMark (map written cells) trail) marks last h.marks_ (record {
        cells_ = omega (arith, length-map cells written);
        trail_ = omega arith;
        vars = h.vars_ ∙ ap (λ cs. length (variable_cells 0 cs)) (sym all_cells);
        bindings = subst P (sym all_cells) (subst Q (sym all_trail) h.bindings);
      });
      order = AreBelow-push 0 0 marks last h.order
          (all_map (IsMark (map written cells) trail) (λ mark. (mark.cells ≤ last.cells) × (mark.trail ≤ last.trail)) (λ mark m. (omega (arith, m.cells_, length-map cells written), m.trail_)) marks h.marks_)
          (omega arith) (omega arith);
    }

-- no bindings at a cell that isn't there
binding-past : (cells : List Cell) (entries : List Entry) (at : ℕ) → AllByRecursion (Fits cells) entries → length cells ≤ at → binding_at entries at ≡ None
binding-past cells [] at fit above = refl
binding-past cells (entry ∷ entries) at fit above = by_test (entry.var == at) refl (binding-past cells entries at fit.1 above)
  where
    by_test : (b : Bool) → (entry.var == at) ≡ b → binding_at entries at ≡ None → cond b (Some entry.to) (binding_at entries at) ≡ None
    by_test true same none = let here : entry.var ≡ at = (Decides-eqb entry.var at).0 same in absurd (omega (arith, fit.0.var_there))
    by_test false other none = none

-- fewer cells, which hold all bindings
Agrees-take : (n : ℕ) (cells written_cells : List Cell) (trail : List Entry) → Agrees cells trail → n ≤ length cells → AllByRecursion (Fits (take n written_cells)) trail → length (take n written_cells) ≡ n → Agrees (take n cells) trail
Agrees-take n cells written_cells trail agrees fits_n fit counted at = by_place (cases_lt at n)
  where
    by_place : (at < n) ⊎ (n ≤ at) → target (get_or (take n cells) at Nil) ≡ binding_at trail at
    by_place (inl below) = ap target (get_or-take n cells at Nil below) ∙ agrees at
    by_place (inr above) =
        ap target (get_or_past (take n cells) at Nil (omega (arith, length-take-le n cells fits_n)))
        ∙ sym (binding-past (take n written_cells) trail at fit (omega arith))

AreCells-take : (n : ℕ) (cells : List Cell) → AreCells cells → n ≤ length cells → AreCells (take n cells)
AreCells-take n cells are fits at within =
    let counted : length (take n cells) ≡ n = length-take-le n cells fits in
    let below : at < n = (omega (arith, within, counted)) in
    let P : List Cell → Type 0 = λ cs. IsCellAfter at (length (variable_cells 0 cs)) (get_or (take n cells) at Nil) in
    let Q : Cell → Type 0 = λ c. IsCellAfter at (length (variable_cells 0 (take at cells))) c in
    subst P (sym (take-take at n cells (omega arith))) (subst Q (sym (get_or-take n cells at Nil below)) (are at (omega arith)))

-- earlier marks lie within a later one
below_mark : (cells trail : ℕ) (marks : List Lengths) (place : ℕ) (mark : Lengths) → AreBelow cells trail marks → slice_get marks place ≡ Some mark
    → (cells ≤ mark.cells) × (trail ≤ mark.trail) × AllByRecursion (λ other. (other.cells ≤ mark.cells) × (other.trail ≤ mark.trail)) (take (suc place) marks)
below_mark cells trail [] place mark h found = absurd (cc found)
below_mark cells trail (first ∷ marks) zero mark h found =
    let same : first ≡ mark = (cc found) in
    let P : Lengths → Type 0 = λ m. (cells ≤ m.cells) × (trail ≤ m.trail) × AllByRecursion (λ other. (other.cells ≤ m.cells) × (other.trail ≤ m.trail)) (first ∷ []) in
    subst P same (h.0, h.1, ((omega arith, omega arith), tt))
below_mark cells trail (first ∷ marks) (suc place) mark h found =
    let more : (first.cells ≤ mark.cells) × (first.trail ≤ mark.trail) × AllByRecursion (λ other. (other.cells ≤ mark.cells) × (other.trail ≤ mark.trail)) (take (suc place) marks) = below_mark first.cells first.trail marks place mark h.2 found in
    (omega (arith, h.0, more.0), omega (arith, h.1, more.1), ((more.0, more.1), more.2))

AreBelow-take : (cells trail n : ℕ) (marks : List Lengths) → AreBelow cells trail marks → AreBelow cells trail (take n marks)
AreBelow-take cells trail zero marks h = tt
AreBelow-take cells trail (suc n) [] h = tt
AreBelow-take cells trail (suc n) (mark ∷ marks) h = (h.0, h.1, AreBelow-take mark.cells mark.trail n marks h.2)

-- of two facts of each
all_both : {X : Type 0} (P Q : X → Type 0) (xs : List X) → AllByRecursion P xs → AllByRecursion Q xs → AllByRecursion (λ x. P x × Q x) xs
all_both P Q [] h g = tt
all_both P Q (x ∷ xs) h g = ((h.0, g.0), all_both P Q xs h.1 g.1)

all_at : {X : Type 0} (P : X → Type 0) (xs : List X) (place : ℕ) (x : X) → AllByRecursion P xs → slice_get xs place ≡ Some x → P x
all_at P [] place x h found = absurd (cc found)
all_at P (y ∷ xs) zero x h found = let same : y ≡ x = (cc found) in subst P same h.0
all_at P (y ∷ xs) (suc place) x h found = all_at P xs place x h.1 found

-- an earlier mark at a later one
IsMark-take : (cells : List Cell) (trail : List Entry) (mark other : Lengths) → IsMark cells trail mark → IsMark cells trail other → other.cells ≤ mark.cells → other.trail ≤ mark.trail
    → IsMark (take mark.cells cells) (take mark.trail trail) other
IsMark-take cells trail mark other is_mark h c t =
    let same : take other.cells (take mark.cells cells) ≡ take other.cells cells = take-take other.cells mark.cells cells c in
    let same_trail : take other.trail (take mark.trail trail) ≡ take other.trail trail = take-take other.trail mark.trail trail t in
    let P : List Cell → Type 0 = λ cs. AreBindings cs (take other.trail (take mark.trail trail)) in
    let Q : List Entry → Type 0 = λ es. AreBindings (take other.cells cells) es in
    record {
      cells_ = omega (arith, c, length-take-le mark.cells cells is_mark.cells_);
      trail_ = omega (arith, t, length-take-le mark.trail trail is_mark.trail_);
      vars = h.vars ∙ ap (λ cs. length (variable_cells 0 cs)) (sym same);
      bindings = subst P (sym same) (subst Q (sym same_trail) h.bindings);
    }

-- a store put back to a mark
pub IsStore-undo : (cells restored : List Cell) (trail : List Entry) (marks : List Lengths) (vars place : ℕ) (mark : Lengths) → IsStore cells trail marks vars
    → slice_get marks place ≡ Some mark → map written restored ≡ map written cells → Agrees restored (take mark.trail trail)
    → IsStore (take mark.cells restored) (take mark.trail trail) (take (suc place) marks) mark.vars
IsStore-undo cells restored trail marks vars place mark h found same agrees =
    let is_mark : IsMark (map written cells) trail mark = all_at (IsMark (map written cells) trail) marks place mark h.marks_ found in
    let lengths : length restored ≡ length (map written cells) = sym (length-map restored written) ∙ ap length same in
    let taken : map written (take mark.cells restored) ≡ take mark.cells (map written cells) = sym (take-map written mark.cells restored) ∙ ap (take mark.cells) same in
    let below : (0 ≤ mark.cells) × (0 ≤ mark.trail) × AllByRecursion (λ other. (other.cells ≤ mark.cells) × (other.trail ≤ mark.trail)) (take (suc place) marks) = below_mark 0 0 marks place mark h.order found in
    let P : List Cell → Type 0 = λ cs. AreBindings cs (take mark.trail trail) in
    let R : List Cell → Type 0 = λ cs. AllByRecursion (IsMark cs (take mark.trail trail)) (take (suc place) marks) in
    record {
      cells_ = subst AreCells (sym taken) (AreCells-take mark.cells (map written cells) h.cells_ is_mark.cells_);
      bindings = subst P (sym taken) is_mark.bindings;
      agrees = Agrees-take mark.cells restored (map written cells) (take mark.trail trail) agrees (omega (arith, is_mark.cells_)) is_mark.bindings.fit (length-take-le mark.cells (map written cells) is_mark.cells_);
      vars_ = is_mark.vars ∙ ap (λ cs. length (variable_cells 0 cs)) (sym taken);
      marks_ = subst R (sym taken)
          (all_map (λ other. IsMark (map written cells) trail other × ((other.cells ≤ mark.cells) × (other.trail ≤ mark.trail))) (IsMark (take mark.cells (map written cells)) (take mark.trail trail))
          (λ other both. IsMark-take (map written cells) trail mark other is_mark both.0 both.1.0 both.1.1) (take (suc place) marks)
          (all_both (IsMark (map written cells) trail) (λ other. (other.cells ≤ mark.cells) × (other.trail ≤ mark.trail)) (take (suc place) marks) (all_take (IsMark (map written cells) trail) (suc place) marks h.marks_) below.2));
      order = AreBelow-take 0 0 (suc place) marks h.order;
    }

-- what is seen of the marks then
pub marks-undo : (cells : List Cell) (trail : List Entry) (marks : List Lengths) (place : ℕ) (mark : Lengths) → AllByRecursion (IsMark cells trail) marks → AreBelow 0 0 marks → slice_get marks place ≡ Some mark
    → map (shown_at (take mark.cells cells) (take mark.trail trail)) (take (suc place) marks) ≡ take (suc place) (map (shown_at cells trail) marks)
marks-undo cells trail marks place mark are order found =
    map_same (shown_at (take mark.cells cells) (take mark.trail trail)) (shown_at cells trail) (take (suc place) marks)
    (all_map (λ other. (other.cells ≤ mark.cells) × (other.trail ≤ mark.trail)) (λ other. shown_at (take mark.cells cells) (take mark.trail trail) other ≡ shown_at cells trail other)
    (λ other below. ap (λ cs. shown_cells cs (take other.trail (take mark.trail trail))) (take-take other.cells mark.cells cells below.0) ∙ ap (shown_cells (take other.cells cells)) (take-take other.trail mark.trail trail below.1))
    (take (suc place) marks) (below_mark 0 0 marks place mark order found).2)
    ∙ sym (take-map (shown_at cells trail) (suc place) marks)

pub slice_get-map : {X Y : Type 0} (f : X → Y) (xs : List X) (place : ℕ) (x : X) → slice_get xs place ≡ Some x → slice_get (map f xs) place ≡ Some (f x)
slice_get-map f [] place x found = absurd (cc found)
slice_get-map f (y ∷ xs) zero x found = let same : y ≡ x = (cc found) in ap (λ z. Some (f z)) same
slice_get-map f (y ∷ xs) (suc place) x found = slice_get-map f xs place x found

-- a variable that isn't bound, by what contracts see of it
pub unbound_cell : (cells : List Cell) (trail : List Entry) (marks : List Lengths) (vars var v : ℕ) → IsStore cells trail marks vars
    → slice_get (variable_cells 0 (map written cells)) v ≡ Some var
    → get_or (map (replaced (values_under (map written cells) trail)) (trees_in (map written cells))) var nil ≡ variable v
    → (var < length cells) × (get_or cells var Nil ≡ Var v) × (values_under (map written cells) trail v ≡ variable v)
unbound_cell cells trail marks vars var v h own free =
    (within, by_binding (binding_at trail var) refl, stands)
  where
    place : IsPlace 0 (map written cells) v var
    place = place_of 0 (map written cells) v var own

    here : place.index ≡ var
    here = omega (arith, place.place_)

    within_written : var < length (map written cells)
    within_written = omega (arith, place.within, place.place_)

    within : var < length cells
    within = omega (arith, within_written, length-map cells written)

    var_cell : (c : Cell) (at : ℕ) → IsVariable c → IsCellAfter at v c → c ≡ Var v
    var_cell (Var n) at is_variable is_cell = ap Var is_cell
    var_cell (Bound n to) at is_variable is_cell = absurd is_cell
    var_cell (Name n) at is_variable is_cell = absurd is_variable
    var_cell (Num z) at is_variable is_cell = absurd is_variable
    var_cell (Day d) at is_variable is_cell = absurd is_variable
    var_cell Nil at is_variable is_cell = absurd is_variable
    var_cell (Cons tail end) at is_variable is_cell = absurd is_variable
    var_cell (Link to) at is_variable is_cell = absurd is_variable

    is_var : get_or (map written cells) var Nil ≡ Var v
    is_var =
        let P : ℕ → Type 0 = λ n. IsCellAfter place.index n (get_or (map written cells) place.index Nil) in
        let found : get_or (map written cells) place.index Nil ≡ Var v = var_cell (get_or (map written cells) place.index Nil) place.index place.variable_ (subst P place.before (h.cells_ place.index place.within)) in
        ap (λ k. get_or (map written cells) k Nil) (sym here) ∙ found

    tree_ : get_or (trees_in (map written cells)) var nil ≡ variable v
    tree_ = tree_at (map written cells) var within_written ∙ ap (tree_after (trees_in (take var (map written cells)))) is_var

    stands : values_under (map written cells) trail v ≡ variable v
    stands =
        ap (replaced (values_under (map written cells) trail)) (sym tree_)
        ∙ (sym (get_or-map (replaced (values_under (map written cells) trail)) (trees_in (map written cells)) var nil nil (omega (arith, within_written, length-trees_from [] (map written cells))))
        ∙ free)

    not_bound : (c : Cell) → written c ≡ Var v → target c ≡ None → c ≡ Var v
    not_bound (Var n) same none = same
    not_bound (Bound n to) same none = absurd (cc none)
    not_bound (Name n) same none = same
    not_bound (Num z) same none = same
    not_bound (Day d) same none = same
    not_bound Nil same none = same
    not_bound (Cons tail end) same none = same
    not_bound (Link to) same none = same

    by_binding : (o : Option ℕ) → binding_at trail var ≡ o → get_or cells var Nil ≡ Var v
    by_binding None none = not_bound (get_or cells var Nil) (sym (get-written cells var) ∙ is_var) (h.agrees var ∙ none)
    by_binding (Some to) found =
        let bound : IsBound (trees_in (map written cells)) (values_under (map written cells) trail) v to = bound_by (map written cells) variable trail var v to h.bindings.fit h.bindings.apart is_var found in
        absurd (true≢false (sym ((Decides-eqb v v).1 refl) ∙ (ap (occurs v) (sym stands) ∙ bound.gone v)))

-- the same of what contracts see of a store
pub unbound_shown : (cells : List Cell) (trail : List Entry) (marks : List Lengths) (vars var v : ℕ) (room : Room) (shown : Shown) → IsStore cells trail marks vars
    → ◌≡◌ {A = Shown} (record { now = shown_cells (map written cells) trail; marks = map (shown_at (map written cells) trail) marks; room = room }) shown
    → IsUnbound shown var v
    → (var < length cells) × (get_or cells var Nil ≡ Var v) × (values_under (map written cells) trail v ≡ variable v)
unbound_shown cells trail marks vars var v room shown h view unbound =
    unbound_cell cells trail marks vars var v h
    (let P : Shown → Type 0 = λ s. slice_get s.now.variables v ≡ Some var in subst P (sym view) unbound.own)
    (let P : Shown → Type 0 = λ s. get_or s.now.terms var nil ≡ variable v in subst P (sym view) unbound.free)

-- the term of a cell
pub term-shown : (cells : List Cell) (trail : List Entry) (to : ℕ) → to < length cells → get_or (map (replaced (values_under (map written cells) trail)) (trees_in (map written cells))) to nil ≡ replaced (values_under (map written cells) trail) (get_or (trees_in (map written cells)) to nil)
term-shown cells trail to there =
    get_or-map (replaced (values_under (map written cells) trail)) (trees_in (map written cells)) to nil nil (omega (arith, there, length-map cells written, length-trees_from [] (map written cells)))

-- fewer bindings
AreDistinct-front : (entries : List Entry) (last : Entry) → AreDistinct (entries ++ last ∷ []) → AreDistinct entries × (binding_at entries last.var ≡ None)
AreDistinct-front [] last h = (tt, refl)
AreDistinct-front (entry ∷ entries) last h =
    let more : AreDistinct entries × (binding_at entries last.var ≡ None) = AreDistinct-front entries last h.1 in
    let other : (entry.var == last.var) ≡ false = by_test (last.var == entry.var) refl in
    ((front_none entries h.0, more.0), ap (λ b. cond b (Some entry.to) (binding_at entries last.var)) other ∙ more.1)
  where
    front_none : (es : List Entry) → binding_at (es ++ last ∷ []) entry.var ≡ None → binding_at es entry.var ≡ None
    front_none [] none = refl
    front_none (e ∷ es) none = by_first (e.var == entry.var) none (front_none es)
      where
        by_first : (b : Bool) → cond b (Some e.to) (binding_at (es ++ last ∷ []) entry.var) ≡ None → (binding_at (es ++ last ∷ []) entry.var ≡ None → binding_at es entry.var ≡ None) → cond b (Some e.to) (binding_at es entry.var) ≡ None
        by_first true found later = absurd (cc found)
        by_first false none_following later = later none_following

    last_found : (es : List Entry) → (last.var == entry.var) ≡ true → binding_at (es ++ last ∷ []) entry.var ≡ None → ⊥
    last_found [] same none = let some : Some last.to ≡ None = ap (λ b. cond b (Some last.to) None) (sym same) ∙ none in absurd (cc some)
    last_found (e ∷ es) same none = by_first (e.var == entry.var) none (last_found es same)
      where
        by_first : (b : Bool) → cond b (Some e.to) (binding_at (es ++ last ∷ []) entry.var) ≡ None → (binding_at (es ++ last ∷ []) entry.var ≡ None → ⊥) → ⊥
        by_first true found later = absurd (cc found)
        by_first false none_following later = later none_following

    by_test : (b : Bool) → (last.var == entry.var) ≡ b → (entry.var == last.var) ≡ false
    by_test true same = absurd (last_found entries same h.0)
    by_test false apart = nat_eq_equiv.symm entry.var last.var ∙ apart

AreApart-front : (trees : List Tree) (by : ℕ → Tree) (entries : List Entry) (last : Entry) → AreApart trees by (entries ++ last ∷ []) → AreApart trees by entries
AreApart-front trees by [] last h = tt
AreApart-front trees by (entry ∷ entries) last h = (h.0, h.1, AreApart-front trees (extended by entry.number (replaced by (get_or trees entry.to nil))) entries last h.2)

all_front : {X : Type 0} (P : X → Type 0) (xs : List X) (x : X) → AllByRecursion P (xs ++ x ∷ []) → AllByRecursion P xs × P x
all_front P [] x h = (tt, h.0)
all_front P (y ∷ xs) x h = let more : AllByRecursion P xs × P x = all_front P xs x h.1 in ((h.0, more.0), more.1)

-- one binding less
pub record IsUnbinding (cells new : List Cell) (trail : List Entry) (last : Entry) : Type 0 where
  pub there : last.var < length cells
  pub written_ : map written new ≡ map written cells
  pub bindings : AreBindings (map written new) trail
  pub agrees : Agrees new trail

pub unbinding : (cells : List Cell) (trail : List Entry) (last : Entry) → AreBindings (map written cells) (trail ++ last ∷ []) → Agrees cells (trail ++ last ∷ [])
    → IsUnbinding cells (set cells last.var (Var last.number)) trail last
unbinding cells trail last h agrees =
    let fit : AllByRecursion (Fits (map written cells)) trail × Fits (map written cells) last = all_front (Fits (map written cells)) trail last h.fit in
    let distinct : AreDistinct trail × (binding_at trail last.var ≡ None) = AreDistinct-front trail last h.distinct in
    let there : last.var < length cells = omega (arith, fit.1.var_there, length-map cells written) in
    let same : map written (set cells last.var (Var last.number)) ≡ map written cells =
    map-set written cells last.var (Var last.number) ∙ (ap (set (map written cells) last.var) (sym fit.1.var) ∙ set-get_or (map written cells) last.var Nil) in
    let P : List Cell → Type 0 = λ cs. AreBindings cs trail in
    record {
      there = there;
      written_ = same;
      bindings = subst P (sym same) (record { fit = fit.0; distinct = distinct.0; apart = AreApart-front (trees_in (map written cells)) variable trail last h.apart });
      agrees = agrees_then there distinct.1;
    }
  where
    agrees_then : last.var < length cells → binding_at trail last.var ≡ None → Agrees (set cells last.var (Var last.number)) trail
    agrees_then there none at = by_test (last.var == at) refl
      where
        by_test : (b : Bool) → (last.var == at) ≡ b → target (get_or (set cells last.var (Var last.number)) at Nil) ≡ binding_at trail at
        by_test true own =
            let here : last.var ≡ at = (Decides-eqb last.var at).0 own in
            let P : ℕ → Type 0 = λ k. target (get_or (set cells last.var (Var last.number)) k Nil) ≡ binding_at trail k in
            subst P here (ap target (get_or-set_same cells last.var (Var last.number) Nil there) ∙ sym none)
        by_test false other =
            ap target (get_or-set_other cells last.var at (Var last.number) Nil (λ same. true≢false (sym ((Decides-eqb last.var at).1 (sym same)) ∙ other)))
            ∙ (agrees at ∙ binding-push trail last at other)
