-- One step along a chain of bindings, and its ends.
use Rattle.std.proofs.Common.{ℤ, pos, negsuc, ◌≤ℤ◌, ◌^◌, FitsSigned, w32, w64, ◌≡◌, ℕ, suc, Bool, true, false, cond, ◌==◌, ◌+◌, ◌-◌, ◌*◌, ◌<◌, ◌≤◌, List, [], ◌∷◌, ◌++◌, length, map, get_or, take, drop, slice_get, Some, None, refl, sym, ap, subst, ◌∙◌, arith, true≢false, inl, inr, ◌⊎◌}
use Rattle.std.specs.List.{AllByRecursion}
use Rattle.std.proofs.lemmas.Bool.{cases_order}
use Rattle.std.proofs.lemmas.Bool.Decides.{Decides-eqb}
use Rattle.std.proofs.lemmas.List.{get_or_append_left, take-append-drop, drop_more, length-map, length-take-le, take-take, get_or-take}
use Rattle.std.proofs.lemmas.Nat.{mul-add-lt}
use Rattle.std.proofs.lemmas.Int.{ints}
use Rattle.le_base.specs.Ranges.{IsNumber, IsDay}
use Rattle.le_terms.specs.Tree.{Tree, constant, number, date, variable, nil, cell}
use Rattle.le_terms.specs.Variables.{replaced}
use Rattle.le_subst.specs.Solution.{one}
use Rattle.le_store.specs.declared.cells.Cell.{Cell}
use Rattle.le_store.specs.declared.cells.Cell.TheVariants.{Name, Num, Day, Nil, Cons, Link, Var, Bound}
use Rattle.le_store.specs.declared.cells.Entry.{Entry}
use Rattle.le_store.specs.declared.cells.Lengths.{Lengths}
use Rattle.le_store.specs.Shown.{Room, Shown, IsUnbound, term_of, IsThere}
use Rattle.le_store.specs.Cells.{written, tree_after, trees_from, trees_in, extended, values_from, values_under, variable_cells, target, binding_at}
use Rattle.le_store.specs.State.{IsCellAfter, AreCells, Fits, IsStore}
use Rattle.le_store.proofs.CellTrees.{trees_from-front, tree_at, length-trees_from}
use Rattle.le_store.proofs.Variables.{IsVariable, variable_cells-append, count-below}
use Rattle.le_store.proofs.Ranks.{rank_of, ranks_under, IsAbove, above_by}
use Rattle.le_store.proofs.Steps.{get-written, term-shown}
use Rattle.le_store.proofs.Views.{view_of}

-- the trees of cells one after another
trees_from-append : (trees : List Tree) (cells more : List Cell) → trees_from trees (cells ++ more) ≡ trees_from (trees_from trees cells) more
trees_from-append trees [] more = refl
trees_from-append trees (one_cell ∷ cells) more = trees_from-append (trees ++ tree_after trees one_cell ∷ []) cells more

-- an earlier cell's tree
pub earlier_tree : (cells : List Cell) (at to : ℕ) → at ≤ length cells → to < at → get_or (trees_in (take at cells)) to nil ≡ get_or (trees_in cells) to nil
earlier_tree cells at to fits below =
    let front : (more : List Tree) × (trees_from (trees_in (take at cells)) (drop at cells) ≡ trees_in (take at cells) ++ more) = trees_from-front (trees_in (take at cells)) (drop at cells) in
    let whole : trees_in cells ≡ trees_in (take at cells) ++ front.0 = ap trees_in (sym (take-append-drop at cells)) ∙ (trees_from-append [] (take at cells) (drop at cells) ∙ front.1) in
    let counted : length (trees_in (take at cells)) ≡ 0 + length (take at cells) = length-trees_from [] (take at cells) in
    sym (get_or_append_left (trees_in (take at cells)) front.0 nil to (omega (arith, counted, length-take-le at cells fits))) ∙ ap (λ ts. get_or ts to nil) (sym whole)

-- how far a cell is from the end of its chain
abbrev pub distance : List Cell → List Entry → ℕ → ℕ
distance cells trail at = rank_of (ranks_under cells trail) (get_or (trees_in cells) at nil) * length cells + at

-- the next cell of a chain
pub record IsNext (cells : List Cell) (trail : List Entry) (at to : ℕ) : Type 0 where
  pub there : to < length cells
  pub same : replaced (values_under (map written cells) trail) (get_or (trees_in (map written cells)) to nil) ≡ replaced (values_under (map written cells) trail) (get_or (trees_in (map written cells)) at nil)
  pub nearer : distance (map written cells) trail to < distance (map written cells) trail at

pub next_link : (cells : List Cell) (trail : List Entry) (marks : List Lengths) (vars at to : ℕ) → IsStore cells trail marks vars → at < length cells → get_or cells at Nil ≡ Link to → IsNext cells trail at to
next_link cells trail marks vars at to h within is_link =
    let counted : length (map written cells) ≡ length cells = length-map cells written in
    let stands : get_or (map written cells) at Nil ≡ Link to = get-written cells at ∙ ap written is_link in
    let P : Cell → Type 0 = λ c. IsCellAfter at (length (variable_cells 0 (take at (map written cells)))) c in
    let below : to < at = subst P stands (h.cells_ at (omega arith)) in
    let same : get_or (trees_in (map written cells)) at nil ≡ get_or (trees_in (map written cells)) to nil =
    tree_at (map written cells) at (omega arith) ∙ (ap (tree_after (trees_in (take at (map written cells)))) stands ∙ earlier_tree (map written cells) at to (omega arith) below) in
    let ranks : rank_of (ranks_under (map written cells) trail) (get_or (trees_in (map written cells)) at nil) * length (map written cells) ≡ rank_of (ranks_under (map written cells) trail) (get_or (trees_in (map written cells)) to nil) * length (map written cells) =
    ap (λ t. rank_of (ranks_under (map written cells) trail) t * length (map written cells)) same in
    record {
      there = omega arith;
      same = ap (replaced (values_under (map written cells) trail)) (sym same);
      nearer = omega (arith, ranks, below);
    }

pub next_bound : (cells : List Cell) (trail : List Entry) (marks : List Lengths) (vars at v to : ℕ) → IsStore cells trail marks vars → at < length cells → get_or cells at Nil ≡ Bound v to → IsNext cells trail at to
next_bound cells trail marks vars at v to h within is_bound =
    let counted : length (map written cells) ≡ length cells = length-map cells written in
    let stands : get_or (map written cells) at Nil ≡ Var v = get-written cells at ∙ ap written is_bound in
    let found : binding_at trail at ≡ Some to = sym (h.agrees at) ∙ ap target is_bound in
    let above : IsAbove (values_under (map written cells) trail) (ranks_under (map written cells) trail) v (get_or (trees_in (map written cells)) to nil) × (to < length (map written cells)) =
    above_by (map written cells) variable (λ w. 0) trail at v to h.bindings.fit h.bindings.apart stands found in
    let tree_ : get_or (trees_in (map written cells)) at nil ≡ variable v = tree_at (map written cells) at (omega arith) ∙ ap (tree_after (trees_in (take at (map written cells)))) stands in
    let ranks : rank_of (ranks_under (map written cells) trail) (get_or (trees_in (map written cells)) at nil) ≡ ranks_under (map written cells) trail v = ap (rank_of (ranks_under (map written cells) trail)) tree_ in
    let less : rank_of (ranks_under (map written cells) trail) (get_or (trees_in (map written cells)) to nil) * length (map written cells) + to < length (map written cells) * rank_of (ranks_under (map written cells) trail) (get_or (trees_in (map written cells)) at nil) =
    mul-add-lt (rank_of (ranks_under (map written cells) trail) (get_or (trees_in (map written cells)) to nil)) (length (map written cells)) to (rank_of (ranks_under (map written cells) trail) (get_or (trees_in (map written cells)) at nil)) (omega (arith, above.0.above, ranks)) above.1 in
    record {
      there = omega (arith, above.1);
      same = sym above.0.same ∙ ap (replaced (values_under (map written cells) trail)) (sym tree_);
      nearer = omega (arith, less);
    }

-- a variable cell that no binding is of: no binding has its number
other_numbers : (cells : List Cell) (entries : List Entry) (at v : ℕ) → AreCells cells → at < length cells → get_or cells at Nil ≡ Var v → AllByRecursion (Fits cells) entries → binding_at entries at ≡ None
    → AllByRecursion (λ entry. (v == entry.number) ≡ false) entries
other_numbers cells [] at v are within is_var fit none = tt
other_numbers cells (entry ∷ entries) at v are within is_var fit none =
    let parts : ((entry.var == at) ≡ false) × (binding_at entries at ≡ None) = none_parts (entry.var == at) none in
    (by_test parts.0 (v == entry.number) refl, other_numbers cells entries at v are within is_var fit.1 parts.1)
  where
    none_parts : (b : Bool) → cond b (Some entry.to) (binding_at entries at) ≡ None → (b ≡ false) × (binding_at entries at ≡ None)
    none_parts true found = absurd (cc found)
    none_parts false none_following = (refl, none_following)

    number_at : (place w : ℕ) → place < length cells → get_or cells place Nil ≡ Var w → w ≡ length (variable_cells 0 (take place cells))
    number_at place w there stands = let P : Cell → Type 0 = λ c. IsCellAfter place (length (variable_cells 0 (take place cells))) c in subst P stands (are place there)

    fewer : (a b w : ℕ) → a < b → b < length cells → get_or cells a Nil ≡ Var w → length (variable_cells 0 (take a cells)) < length (variable_cells 0 (take b cells))
    fewer a b w lt there stands =
        let Q : Cell → Type 0 = IsVariable in
        let R : List Cell → Type 0 = λ cs. length (variable_cells 0 cs) < length (variable_cells 0 (take b cells)) in
        subst R (take-take a b cells (omega arith)) (count-below (take b cells) a (omega (arith, length-take-le b cells (omega arith))) (subst Q (sym (get_or-take b cells a Nil lt ∙ stands)) tt))

    by_test : ((entry.var == at) ≡ false) → (b : Bool) → (v == entry.number) ≡ b → (v == entry.number) ≡ false
    by_test other true same = by_order (cases_order entry.var at)
      where
        equal : v ≡ entry.number
        equal = (Decides-eqb v entry.number).0 same

        by_order : (entry.var ≡ at) ⊎ ((entry.var < at) ⊎ (at < entry.var)) → (v == entry.number) ≡ false
        by_order (inl here) = absurd (true≢false (sym ((Decides-eqb entry.var at).1 here) ∙ other))
        by_order (inr (inl before)) = absurd (omega (arith, fewer entry.var at entry.number before within fit.0.var, number_at at v within is_var, number_at entry.var entry.number fit.0.var_there fit.0.var, equal))
        by_order (inr (inr later)) = absurd (omega (arith, fewer at entry.var v later fit.0.var_there is_var, number_at at v within is_var, number_at entry.var entry.number fit.0.var_there fit.0.var, equal))
    by_test other false apart = apart

values_from-other : (trees : List Tree) (v : ℕ) (by : ℕ → Tree) (entries : List Entry) → AllByRecursion (λ entry. (v == entry.number) ≡ false) entries → by v ≡ variable v → values_from trees by entries v ≡ variable v
values_from-other trees v by [] others free = free
values_from-other trees v by (entry ∷ entries) others free =
    values_from-other trees v (extended by entry.number (replaced by (get_or trees entry.to nil))) entries others.1
    (ap (replaced (one entry.number (replaced by (get_or trees entry.to nil)))) free ∙ ap (λ b. cond b (replaced by (get_or trees entry.to nil)) (variable v)) others.0)

slice_get-seam : (xs : List ℕ) (y : ℕ) (ys : List ℕ) (n : ℕ) → n ≡ length xs → slice_get (xs ++ y ∷ ys) n ≡ Some y
slice_get-seam xs y ys n same = ap (slice_get (xs ++ y ∷ ys)) same ∙ seam xs
  where
    seam : (xs : List ℕ) → slice_get (xs ++ y ∷ ys) (length xs) ≡ Some y
    seam [] = refl
    seam (x ∷ xs) = seam xs

-- the own cell of a variable
own_place : (cells : List Cell) (at v : ℕ) → at < length cells → get_or cells at Nil ≡ Var v → v ≡ length (variable_cells 0 (take at cells)) → slice_get (variable_cells 0 cells) v ≡ Some at
own_place cells at v within is_var counted =
    let first : drop at cells ≡ Var v ∷ drop (at + 1) cells = drop_more cells at Nil within ∙ ap (λ c. c ∷ drop (at + 1) cells) is_var in
    let here : 0 + length (take at cells) ≡ at = omega (arith, length-take-le at cells (omega arith)) in
    let split : variable_cells 0 cells ≡ variable_cells 0 (take at cells) ++ at ∷ variable_cells (suc at) (drop (at + 1) cells) =
    ap (variable_cells 0) (sym (take-append-drop at cells) ∙ ap (λ cs. take at cells ++ cs) first)
    ∙ (variable_cells-append 0 (take at cells) (Var v ∷ drop (at + 1) cells)
    ∙ ap (λ n. variable_cells 0 (take at cells) ++ variable_cells n (Var v ∷ drop (at + 1) cells)) here) in
    ap (λ ns. slice_get ns v) split ∙ slice_get-seam (variable_cells 0 (take at cells)) at (variable_cells (suc at) (drop (at + 1) cells)) v counted

-- what is seen at the end of a chain that is a variable
pub end_unbound : (cells : List Cell) (trail : List Entry) (marks : List Lengths) (vars at v : ℕ) → IsStore cells trail marks vars → at < length cells → get_or cells at Nil ≡ Var v
    → (slice_get (variable_cells 0 (map written cells)) v ≡ Some at) × (replaced (values_under (map written cells) trail) (get_or (trees_in (map written cells)) at nil) ≡ variable v)
end_unbound cells trail marks vars at v h within is_var =
    let counted : length (map written cells) ≡ length cells = length-map cells written in
    let stands : get_or (map written cells) at Nil ≡ Var v = get-written cells at ∙ ap written is_var in
    let none : binding_at trail at ≡ None = sym (h.agrees at) ∙ ap target is_var in
    let P : Cell → Type 0 = λ c. IsCellAfter at (length (variable_cells 0 (take at (map written cells)))) c in
    let is_number : v ≡ length (variable_cells 0 (take at (map written cells))) = subst P stands (h.cells_ at (omega arith)) in
    let tree_ : get_or (trees_in (map written cells)) at nil ≡ variable v = tree_at (map written cells) at (omega arith) ∙ ap (tree_after (trees_in (take at (map written cells)))) stands in (
      own_place (map written cells) at v (omega arith) stands is_number,
      ap (replaced (values_under (map written cells) trail)) tree_
          ∙ values_from-other (trees_in (map written cells)) v variable trail (other_numbers (map written cells) trail at v h.cells_ (omega arith) stands h.bindings.fit none) refl,
    )

-- the term of a cell by the end of its chain
module _ (cells : List Cell) (trail : List Entry) (marks : List Lengths) (vars at from : ℕ) (room : Room) (shown : Shown) where
  pub there_within : ◌≡◌ {A = Shown} (view_of cells trail marks room) shown → (place : ℕ) → IsThere shown place → place < length cells
  there_within view place there =
      let P : Shown → Type 0 = λ s. place < length s.now.terms in
      omega (arith, subst P (sym view) there, length-trees_from [] (map written cells), length-map (trees_in (map written cells)) (replaced (values_under (map written cells) trail)), length-map cells written)

  pub within_there : ◌≡◌ {A = Shown} (view_of cells trail marks room) shown → (place : ℕ) → place < length cells → IsThere shown place
  within_there view place within =
      let P : Shown → Type 0 = λ s. place < length s.now.terms in
      subst P view (omega (arith, within, length-trees_from [] (map written cells), length-map (trees_in (map written cells)) (replaced (values_under (map written cells) trail)), length-map cells written))

  pub term_there : ◌≡◌ {A = Shown} (view_of cells trail marks room) shown → (place : ℕ) → place < length cells → term_of shown place ≡ replaced (values_under (map written cells) trail) (get_or (trees_in (map written cells)) place nil)
  term_there view place within = ap (λ s. get_or s.now.terms place nil) (sym view) ∙ term-shown cells trail place within

  pub seen : ◌≡◌ {A = Shown} (view_of cells trail marks room) shown → at < length cells → from < length cells
      → replaced (values_under (map written cells) trail) (get_or (trees_in (map written cells)) at nil) ≡ replaced (values_under (map written cells) trail) (get_or (trees_in (map written cells)) from nil)
      → (c : Cell) → get_or cells at Nil ≡ c → term_of shown from ≡ replaced (values_under (map written cells) trail) (tree_after (trees_in (take at (map written cells))) (written c))
  seen view within from_within same c stands =
      term_there view from from_within
      ∙ (sym same
      ∙ ap (replaced (values_under (map written cells) trail)) (tree_at (map written cells) at (omega (arith, length-map cells written)) ∙ ap (tree_after (trees_in (take at (map written cells)))) (get-written cells at ∙ ap written stands)))

  pub seen_list : IsStore cells trail marks vars → ◌≡◌ {A = Shown} (view_of cells trail marks room) shown → at < length cells → from < length cells
      → replaced (values_under (map written cells) trail) (get_or (trees_in (map written cells)) at nil) ≡ replaced (values_under (map written cells) trail) (get_or (trees_in (map written cells)) from nil)
      → (tail end : ℕ) → get_or cells at Nil ≡ Cons tail end
      → (0 < at) × (IsThere shown (at - 1) × IsThere shown tail × (term_of shown from ≡ cell (term_of shown (at - 1)) (term_of shown tail)))
  seen_list h view within from_within same tail end stands = (
    omega (arith, below),
    (
      within_there view (at - 1) (omega (arith, within)),
      within_there view tail (omega (arith, within, below)),
      seen view within from_within same (Cons tail end) stands
          ∙ (ap (λ t. cell (replaced (values_under (map written cells) trail) t) (replaced (values_under (map written cells) trail) (get_or (trees_in (take at (map written cells))) tail nil))) head_tree
          ∙ (ap (λ t. cell (replaced (values_under (map written cells) trail) (get_or (trees_in (map written cells)) (at - 1) nil)) (replaced (values_under (map written cells) trail) t)) (earlier_tree (map written cells) at tail fits below)
          ∙ (ap (λ t. cell t (replaced (values_under (map written cells) trail) (get_or (trees_in (map written cells)) tail nil))) (sym (term_there view (at - 1) (omega (arith, within))))
          ∙ ap (cell (term_of shown (at - 1))) (sym (term_there view tail (omega (arith, within, below))))))),
    ),
  )
    where
      counted : length (map written cells) ≡ length cells
      counted = length-map cells written

      fits : at ≤ length (map written cells)
      fits = omega (arith, within, counted)

      below : tail < at
      below =
          let P : Cell → Type 0 = λ c. IsCellAfter at (length (variable_cells 0 (take at (map written cells)))) c in
          let both : (tail < at) × (end ≤ tail) = subst P (get-written cells at ∙ ap written stands) (h.cells_ at (omega (arith, within, counted))) in
          both.0

      head_tree : get_or (trees_in (take at (map written cells))) (length (trees_in (take at (map written cells))) - 1) nil ≡ get_or (trees_in (map written cells)) (at - 1) nil
      head_tree =
          let long : length (trees_in (take at (map written cells))) ≡ at = length-trees_from [] (take at (map written cells)) ∙ (omega (arith, length-take-le at (map written cells) fits)) in
          ap (λ n. get_or (trees_in (take at (map written cells))) (n - 1) nil) long ∙ earlier_tree (map written cells) at (at - 1) fits (omega (arith, below))

  pub seen_unbound : IsStore cells trail marks vars → ◌≡◌ {A = Shown} (view_of cells trail marks room) shown → at < length cells → from < length cells
      → replaced (values_under (map written cells) trail) (get_or (trees_in (map written cells)) at nil) ≡ replaced (values_under (map written cells) trail) (get_or (trees_in (map written cells)) from nil)
      → (v : ℕ) → get_or cells at Nil ≡ Var v → (term_of shown from ≡ variable v) × IsUnbound shown at v
  seen_unbound h view within from_within same v stands =
      let end : (slice_get (variable_cells 0 (map written cells)) v ≡ Some at) × (replaced (values_under (map written cells) trail) (get_or (trees_in (map written cells)) at nil) ≡ variable v) = end_unbound cells trail marks vars at v h within stands in (
        term_there view from from_within ∙ (sym same ∙ end.1),
        record {
          own = ap (λ s. slice_get s.now.variables v) (sym view) ∙ end.0;
          free = term_there view at within ∙ end.1;
        },
      )

  -- the end of a chain: a variable's is its own cell
  pub end_own : IsStore cells trail marks vars → ◌≡◌ {A = Shown} (view_of cells trail marks room) shown → at < length cells → from < length cells
      → replaced (values_under (map written cells) trail) (get_or (trees_in (map written cells)) at nil) ≡ replaced (values_under (map written cells) trail) (get_or (trees_in (map written cells)) from nil)
      → (c : Cell) → get_or cells at Nil ≡ c → ((to : ℕ) → c ≡ Link to → ⊥) → ((n to : ℕ) → c ≡ Bound n to → ⊥)
      → (v : ℕ) → term_of shown from ≡ variable v → IsUnbound shown at v
  end_own h view within from_within same (Name n) stands no_link no_bound v is_v = let clash : constant n ≡ variable v = sym (seen view within from_within same (Name n) stands) ∙ is_v in absurd (cc clash)
  end_own h view within from_within same (Num z) stands no_link no_bound v is_v = let clash : number z ≡ variable v = sym (seen view within from_within same (Num z) stands) ∙ is_v in absurd (cc clash)
  end_own h view within from_within same (Day d) stands no_link no_bound v is_v = let clash : date d ≡ variable v = sym (seen view within from_within same (Day d) stands) ∙ is_v in absurd (cc clash)
  end_own h view within from_within same Nil stands no_link no_bound v is_v = let clash : nil ≡ variable v = sym (seen view within from_within same Nil stands) ∙ is_v in absurd (cc clash)
  end_own h view within from_within same (Cons tail end) stands no_link no_bound v is_v =
      let clash : cell (term_of shown (at - 1)) (term_of shown tail) ≡ variable v = sym (seen_list h view within from_within same tail end stands).1.2 ∙ is_v in absurd (cc clash)
  end_own h view within from_within same (Link to) stands no_link no_bound v is_v = absurd (no_link to refl)
  end_own h view within from_within same (Bound n to) stands no_link no_bound v is_v = absurd (no_bound n to refl)
  end_own h view within from_within same (Var w) stands no_link no_bound v is_v =
      let both : (term_of shown from ≡ variable w) × IsUnbound shown at w = seen_unbound h view within from_within same w stands in
      let same_var : variable w ≡ variable v = sym both.0 ∙ is_v in
      let same_number : w ≡ v = (cc same_var) in
      let P : ℕ → Type 0 = λ n. IsUnbound shown at n in
      subst P same_number both.1

  -- the numbers in range
  pub number_fits : IsStore cells trail marks vars → at < length cells → (z : ℤ) → get_or cells at Nil ≡ Num z → FitsSigned w64 z
  number_fits h within z stands =
      let P : Cell → Type 0 = λ c. IsCellAfter at (length (variable_cells 0 (take at (map written cells)))) c in
      let is_number : IsNumber z = subst P (get-written cells at ∙ ap written stands) (h.cells_ at (omega (arith, within, length-map cells written))) in
      let low : negsuc (10 ^ 18 - 1) ≤ℤ z = is_number.0 in
      let high : z ≤ℤ pos (10 ^ 18) = is_number.1 in
      omega (arith, ints, low, high)

  pub day_fits : IsStore cells trail marks vars → at < length cells → (z : ℤ) → get_or cells at Nil ≡ Day z → FitsSigned w32 z
  day_fits h within z stands =
      let P : Cell → Type 0 = λ c. IsCellAfter at (length (variable_cells 0 (take at (map written cells)))) c in
      let is_day : IsDay z = subst P (get-written cells at ∙ ap written stands) (h.cells_ at (omega (arith, within, length-map cells written))) in
      let low : negsuc 719161 ≤ℤ z = is_day.0 in
      let high : z ≤ℤ pos 2932896 = is_day.1 in
      omega (arith, ints, low, high)
