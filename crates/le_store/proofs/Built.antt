-- What is seen of a store once cells that are no variables' were put after its cells.
use Rattle.std.proofs.Common.{◌≡◌, ℕ, suc, ◌+◌, ◌-◌, ◌<◌, List, [], ◌∷◌, ◌++◌, length, map, get_or, None, refl, sym, ap, subst, ◌∙◌, arith, append_assoc, append-nil, length-append}
use Rattle.std.specs.List.{AllByRecursion}
use Rattle.std.proofs.lemmas.List.{length-map, length_push}
use Rattle.std.proofs.Math.ListN as lists
use Rattle.le_terms.specs.declared.term.Sym.{Sym}
use Rattle.le_terms.specs.Tree.{Tree, nil, flat, trees_of}
use Rattle.le_terms.specs.Variables.{replaced}
use Rattle.le_subst.specs.Solution.{size}
use Rattle.le_subst.proofs.Replacing.{replaced-replaced, replaced-agree}
use Rattle.le_store.specs.declared.cells.Cell.{Cell}
use Rattle.le_store.specs.declared.cells.Cell.TheVariants.{Name, Num, Day, Nil, Cons, Link, Var, Bound}
use Rattle.le_store.specs.declared.cells.Entry.{Entry}
use Rattle.le_store.specs.declared.cells.Lengths.{Lengths}
use Rattle.le_store.specs.Shown.{Room, Shown, term_of, IsThere, Builds}
use Rattle.le_store.specs.Cells.{written, tree_after, trees_from, trees_in, values_under, variable_cells, shown_at, target}
use Rattle.le_store.specs.State.{IsCellAfter, IsStore}
use Rattle.le_store.specs.Building.{Holds, IsPlain, ArePlain, Grown, by_cells}
use Rattle.le_store.proofs.Variables.{variable_cells-append}
use Rattle.le_store.proofs.Stores.{marks-cell, terms-cell, values-cell}
use Rattle.le_store.proofs.Steps.{written-push, IsStore-push, term-shown}
use Rattle.le_store.proofs.Views.{view_of, count_shown}
use Rattle.le_store.proofs.Building.{trees-flat, length-flat}

-- a variable cell's tree doesn't depend on its binding
trees_from-written : (trees : List Tree) (cells : List Cell) → trees_from trees (map written cells) ≡ trees_from trees cells
trees_from-written trees [] = refl
trees_from-written trees (c ∷ cells) = ap (λ t. trees_from (trees ++ t ∷ []) (map written cells)) (same c) ∙ trees_from-written (trees ++ tree_after trees c ∷ []) cells
  where
    same : (c : Cell) → tree_after trees (written c) ≡ tree_after trees c
    same (Name n) = refl
    same (Num z) = refl
    same (Day d) = refl
    same Nil = refl
    same (Cons tail end) = refl
    same (Link to) = refl
    same (Var n) = refl
    same (Bound n to) = refl

-- a plain cell
record IsFine (at vars : ℕ) (c : Cell) : Type 0 where
  written_ : written c ≡ c
  free : target c ≡ None
  after_ : IsCellAfter at vars c
  none : (k : ℕ) → variable_cells k (c ∷ []) ≡ []

fine : (at vars : ℕ) (c : Cell) → IsPlain at c → IsFine at vars c
fine at vars (Name n) h = record { written_ = refl; free = refl; after_ = tt; none = λ k. refl }
fine at vars (Num z) h = record { written_ = refl; free = refl; after_ = h; none = λ k. refl }
fine at vars (Day d) h = record { written_ = refl; free = refl; after_ = h; none = λ k. refl }
fine at vars Nil h = record { written_ = refl; free = refl; after_ = tt; none = λ k. refl }
fine at vars (Cons tail end) h = record { written_ = refl; free = refl; after_ = h; none = λ k. refl }
fine at vars (Link to) h = record { written_ = refl; free = refl; after_ = h; none = λ k. refl }
fine at vars (Var n) h = absurd h
fine at vars (Bound n to) h = absurd h

-- what holds of a store with more cells, and what is seen of it
pub record IsLonger (cells new : List Cell) (trail : List Entry) (marks : List Lengths) (vars count : ℕ) : Type 0 where
  pub store : IsStore new trail marks vars
  pub values : values_under (map written new) trail ≡ values_under (map written cells) trail
  pub more : List Tree
  pub few : length more ≡ count
  pub terms : map (replaced (values_under (map written new) trail)) (trees_in (map written new)) ≡ map (replaced (values_under (map written cells) trail)) (trees_in (map written cells)) ++ more
  pub variables : variable_cells 0 (map written new) ≡ variable_cells 0 (map written cells)
  pub marks_ : map (shown_at (map written new) trail) marks ≡ map (shown_at (map written cells) trail) marks

longer_one : (cells : List Cell) (trail : List Entry) (marks : List Lengths) (vars : ℕ) (c : Cell) → IsStore cells trail marks vars → IsPlain (length cells) c → IsLonger cells (cells ++ c ∷ []) trail marks vars 1
longer_one cells trail marks vars c h is_plain =
    let counted : length cells ≡ length (map written cells) = sym (length-map cells written) in
    let P : ℕ → Type 0 = λ n. IsPlain n c in
    let is : IsFine (length (map written cells)) (length (variable_cells 0 (map written cells))) c = fine (length (map written cells)) (length (variable_cells 0 (map written cells))) c (subst P counted is_plain) in
    let pushed : map written (cells ++ c ∷ []) ≡ map written cells ++ c ∷ [] = written-push cells c is.written_ in
    let same_variables : variable_cells 0 (map written cells ++ c ∷ []) ≡ variable_cells 0 (map written cells) =
    variable_cells-append 0 (map written cells) (c ∷ []) ∙ (ap (λ ns. variable_cells 0 (map written cells) ++ ns) (is.none (0 + length (map written cells))) ∙ append-nil (variable_cells 0 (map written cells))) in
    record {
      store = IsStore-push cells trail marks vars vars c h is.written_ is.free is.after_ (h.vars_ ∙ ap length (sym same_variables));
      values = ap (λ cs. values_under cs trail) pushed ∙ values-cell (map written cells) trail c h.bindings;
      more = replaced (values_under (map written cells) trail) (tree_after (trees_in (map written cells)) c) ∷ [];
      few = refl;
      terms = ap (λ cs. map (replaced (values_under cs trail)) (trees_in cs)) pushed ∙ terms-cell (map written cells) trail c h.bindings;
      variables = ap (variable_cells 0) pushed ∙ same_variables;
      marks_ = ap (λ cs. map (shown_at cs trail) marks) pushed ∙ marks-cell (map written cells) trail c marks h.marks_;
    }

longer : (cells added : List Cell) (trail : List Entry) (marks : List Lengths) (vars : ℕ) → IsStore cells trail marks vars → ArePlain (length cells) added → IsLonger cells (cells ++ added) trail marks vars (length added)
longer cells [] trail marks vars h are =
    let same : cells ++ [] ≡ cells = append-nil cells in
    let P : List Cell → Type 0 = λ cs. IsStore cs trail marks vars in
    record {
      store = subst P (sym same) h;
      values = ap (λ cs. values_under (map written cs) trail) same;
      more = [];
      few = refl;
      terms = ap (λ cs. map (replaced (values_under (map written cs) trail)) (trees_in (map written cs))) same ∙ sym (append-nil (map (replaced (values_under (map written cells) trail)) (trees_in (map written cells))));
      variables = ap (λ cs. variable_cells 0 (map written cs)) same;
      marks_ = ap (λ cs. map (shown_at (map written cs) trail) marks) same;
    }
longer cells (c ∷ added) trail marks vars h are =
    let same : (cells ++ c ∷ []) ++ added ≡ cells ++ c ∷ added = append_assoc cells (c ∷ []) added in
    let one : IsLonger cells (cells ++ c ∷ []) trail marks vars 1 = longer_one cells trail marks vars c h are.0 in
    let P : ℕ → Type 0 = λ n. ArePlain n added in
    let one_more : suc (length cells) ≡ length (cells ++ c ∷ []) = omega (arith, length_push cells c) in
    let rest : IsLonger (cells ++ c ∷ []) ((cells ++ c ∷ []) ++ added) trail marks vars (length added) = longer (cells ++ c ∷ []) added trail marks vars one.store (subst P one_more are.1) in
    let Q : List Cell → Type 0 = λ cs. IsLonger cells cs trail marks vars (suc (length added)) in
    subst Q same (record {
      store = rest.store;
      values = rest.values ∙ one.values;
      more = one.more ++ rest.more;
      few = omega (arith, length-append one.more rest.more, one.few, rest.few);
      terms = rest.terms ∙ (ap (λ ts. ts ++ rest.more) one.terms ∙ append_assoc (map (replaced (values_under (map written cells) trail)) (trees_in (map written cells))) one.more rest.more);
      variables = rest.variables ∙ one.variables;
      marks_ = rest.marks_ ∙ one.marks_;
    })

pub longer-grown : (cells new : List Cell) (trail : List Entry) (marks : List Lengths) (vars count : ℕ) → IsStore cells trail marks vars → Grown cells new count → IsLonger cells new trail marks vars count
longer-grown cells new trail marks vars count h grown =
    let P : List Cell → Type 0 = λ cs. IsLonger cells cs trail marks vars count in
    let Q : ℕ → Type 0 = λ n. IsLonger cells (cells ++ grown.more) trail marks vars n in
    subst P (sym grown.is) (subst Q grown.few (longer cells grown.more trail marks vars h grown.plain))

-- what contracts see of it
pub built : (cells new : List Cell) (trail : List Entry) (marks : List Lengths) (vars base result : ℕ) (syms : List Sym) (tree : Tree) (room new_room : Room) (old shown : Shown)
    → IsStore cells trail marks vars → ◌≡◌ {A = Shown} (view_of cells trail marks room) old → ◌≡◌ {A = Shown} (view_of new trail marks new_room) shown
    → syms ≡ flat tree → Grown cells new (length syms)
    → Holds new (length cells) (length new) (map (replaced (by_cells cells base)) (trees_of syms)) → result ≡ length new - 1
    → Builds old shown (replaced (λ v. term_of old (base + v)) tree) (size tree) result
built cells new trail marks vars base result syms tree room new_room old shown h view new_view is_flat grown holds is_last = record {
  more = is.more;
  terms = ap (λ s. s.now.terms) (sym new_view) ∙ (is.terms ∙ ap (λ s. s.now.terms ++ is.more) view);
  few = omega (arith, is.few, ap length is_flat, length-flat tree);
  variables = ap (λ s. s.now.variables) (sym new_view) ∙ (is.variables ∙ ap (λ s. s.now.variables) view);
  there = omega (arith, is_last, held.0, count_shown new trail marks new_room shown new_view);
  term_ =
      ap (λ s. get_or s.now.terms result nil) (sym new_view)
      ∙ (term-shown new trail result within
      ∙ (ap (λ by. replaced by (get_or (trees_in (map written new)) result nil)) is.values
      ∙ (ap (replaced (values_under (map written cells) trail)) result_tree
      ∙ (replaced-replaced (by_cells cells base) (values_under (map written cells) trail) tree
      ∙ replaced-agree (λ v. replaced (values_under (map written cells) trail) (by_cells cells base v)) (λ v. term_of old (base + v)) same_variable tree))));
}
  where
    is : IsLonger cells new trail marks vars (length syms)
    is = longer-grown cells new trail marks vars (length syms) h grown

    held : Holds new (length cells) (length new) (replaced (by_cells cells base) tree ∷ [])
    held =
        let P : List Tree → Type 0 = λ ts. Holds new (length cells) (length new) (map (replaced (by_cells cells base)) ts) in
        subst P (ap trees_of is_flat ∙ trees-flat tree) holds

    within : result < length new
    within = omega (arith, is_last, held.0)

    result_tree : get_or (trees_in (map written new)) result nil ≡ replaced (by_cells cells base) tree
    result_tree = ap (λ ts. get_or ts result nil) (trees_from-written [] new) ∙ (ap (λ n. get_or (trees_in new) n nil) is_last ∙ held.2)

    same_variable : (v : ℕ) → replaced (values_under (map written cells) trail) (by_cells cells base v) ≡ term_of old (base + v)
    same_variable v =
        ap (λ ts. replaced (values_under (map written cells) trail) (get_or ts (base + v) nil)) (sym (trees_from-written [] cells))
        ∙ (sym (lists.get_or-map (replaced (values_under (map written cells) trail)) (trees_in (map written cells)) (base + v) nil)
        ∙ ap (λ s. get_or s.now.terms (base + v) nil) view)

pub built_marks : (cells new : List Cell) (trail : List Entry) (marks : List Lengths) (vars count : ℕ) (room : Room) (old : Shown)
    → IsStore cells trail marks vars → ◌≡◌ {A = Shown} (view_of cells trail marks room) old → Grown cells new count → map (shown_at (map written new) trail) marks ≡ old.marks
built_marks cells new trail marks vars count room old h view grown = (longer-grown cells new trail marks vars count h grown).marks_ ∙ ap (λ s. s.marks) view

-- the variables' cells are there
pub there_below : (cells : List Cell) (trail : List Entry) (marks : List Lengths) (room : Room) (old : Shown) (base : ℕ) (vs : List ℕ)
    → ◌≡◌ {A = Shown} (view_of cells trail marks room) old → AllByRecursion (λ v. IsThere old (base + v)) vs → AllByRecursion (λ v. base + v < length cells) vs
there_below cells trail marks room old base [] view are = tt
there_below cells trail marks room old base (v ∷ vs) view are = (omega (arith, are.0, count_shown cells trail marks room old view), there_below cells trail marks room old base vs view are.1)
