-- What contracts see of a store after a step.
use Rattle.std.proofs.Common.{◌≡◌, ℕ, zero, suc, false, ◌+◌, ◌<◌, List, [], ◌∷◌, ◌++◌, length, map, get_or, take, set, slice_get, Some, refl, sym, ap, subst, ◌∙◌, arith}
use Rattle.std.specs.List.{AllByRecursion}
use Rattle.std.proofs.lemmas.List.{length_push, length-map, take-map}
use Rattle.le_terms.specs.Tree.{variable, nil}
use Rattle.le_terms.specs.Variables.{replaced}
use Rattle.le_subst.specs.Solution.{occurs, one}
use Rattle.le_store.specs.declared.cells.Cell.{Cell}
use Rattle.le_store.specs.declared.cells.Cell.TheVariants.{Nil, Var, Bound}
use Rattle.le_store.specs.declared.cells.Entry.{Entry}
use Rattle.le_store.specs.declared.cells.Lengths.{Lengths}
use Rattle.le_store.specs.Shown.{Room, Shown, term_of, IsThere, new_variables, places_from}
use Rattle.le_store.specs.Cells.{written, trees_in, values_under, variable_cells, shown_cells, shown_at}
use Rattle.le_store.specs.State.{IsCellAfter, AreCells, Fits, Agrees, IsStore}
use Rattle.le_store.proofs.CellTrees.{all_map, length-trees_from, values_from-push, values_from-free, terms-bound}
use Rattle.le_store.proofs.Variables.{variable_cells-append, count-below}
use Rattle.le_store.proofs.Stores.{marks-cell, marks-binding, terms-cell}
use Rattle.le_store.proofs.Steps.{written-push, written-bound, IsStore-push, IsStore-bound, IsStore-undo, marks-undo, slice_get-map, term-shown}

-- a store's fields as contracts see them
abbrev pub view_of : List Cell → List Entry → List Lengths → Room → Shown
view_of cells trail marks room = record { now = shown_cells (map written cells) trail; marks = map (shown_at (map written cells) trail) marks; room = room }

-- the numbers of variables that are bound are below the number of variables
numbers_below : (cells : List Cell) (trail : List Entry) → AreCells cells → AllByRecursion (Fits cells) trail → AllByRecursion (λ entry. entry.number < length (variable_cells 0 cells)) trail
numbers_below cells trail are fit = all_map (Fits cells) (λ entry. entry.number < length (variable_cells 0 cells)) below trail fit
  where
    below : (entry : Entry) → Fits cells entry → entry.number < length (variable_cells 0 cells)
    below entry h =
        let P : Cell → Type 0 = λ c. IsCellAfter entry.var (length (variable_cells 0 (take entry.var cells))) c in
        let number : entry.number ≡ length (variable_cells 0 (take entry.var cells)) = subst P h.var (are entry.var h.var_there) in
        let Q : Cell → Type 0 = Rattle.le_store.proofs.Variables.IsVariable in
        let less : length (variable_cells 0 (take entry.var cells)) < length (variable_cells 0 cells) = count-below cells entry.var h.var_there (subst Q (sym h.var) tt) in
        omega arith

-- a new variable
counted : (cells : List Cell) (v : ℕ) → length (variable_cells 0 cells) + 1 ≡ length (variable_cells 0 (cells ++ Var v ∷ []))
counted cells v = sym (length_push (variable_cells 0 cells) (0 + length cells)) ∙ ap length (sym (variable_cells-append 0 cells (Var v ∷ [])))

pub IsStore-variable : (cells new : List Cell) (trail : List Entry) (marks : List Lengths) (vars : ℕ) → IsStore cells trail marks vars → new ≡ cells ++ Var vars ∷ [] → IsStore new trail marks (vars + 1)
IsStore-variable cells new trail marks vars h pushed =
    let P : List Cell → Type 0 = λ cs. IsStore cs trail marks (vars + 1) in
    subst P (sym pushed) (IsStore-push cells trail marks vars (vars + 1) (Var vars) h refl refl h.vars_ (ap (λ n. n + 1) h.vars_ ∙ counted (map written cells) vars))

pub terms-variable : (cells new : List Cell) (trail : List Entry) (marks : List Lengths) (vars : ℕ) (room : Room) (shown : Shown) → IsStore cells trail marks vars → ◌≡◌ {A = Shown} (view_of cells trail marks room) shown → new ≡ cells ++ Var vars ∷ []
    → map (replaced (values_under (map written new) trail)) (trees_in (map written new)) ≡ shown.now.terms ++ variable (length shown.now.variables) ∷ []
terms-variable cells new trail marks vars room shown h view pushed =
    ap (λ cs. map (replaced (values_under cs trail)) (trees_in cs)) (ap (map written) pushed ∙ written-push cells (Var vars) refl)
    ∙ (terms-cell (map written cells) trail (Var vars) h.bindings
    ∙ (ap (λ tree. map (replaced (values_under (map written cells) trail)) (trees_in (map written cells)) ++ tree ∷ []) (free ∙ ap variable h.vars_)
    ∙ ap (λ s. s.now.terms ++ variable (length s.now.variables) ∷ []) view))
  where
    free : values_under (map written cells) trail vars ≡ variable vars
    free =
        let P : ℕ → Type 0 = λ n. AllByRecursion (λ entry. entry.number < n) trail in
        values_from-free (trees_in (map written cells)) vars variable trail (subst P (sym h.vars_) (numbers_below (map written cells) trail h.cells_ h.bindings.fit)) refl

pub variables-variable : (cells new : List Cell) (trail : List Entry) (marks : List Lengths) (vars : ℕ) (room : Room) (shown : Shown) → ◌≡◌ {A = Shown} (view_of cells trail marks room) shown → new ≡ cells ++ Var vars ∷ []
    → variable_cells 0 (map written new) ≡ shown.now.variables ++ length shown.now.terms ∷ []
variables-variable cells new trail marks vars room shown view pushed =
    ap (variable_cells 0) (ap (map written) pushed ∙ written-push cells (Var vars) refl)
    ∙ (variable_cells-append 0 (map written cells) (Var vars ∷ [])
    ∙ (ap (λ n. variable_cells 0 (map written cells) ++ n ∷ []) (omega (arith, length-trees_from [] (map written cells), length-map (trees_in (map written cells)) (replaced (values_under (map written cells) trail))))
    ∙ ap (λ s. s.now.variables ++ length s.now.terms ∷ []) view))

pub marks-variable : (cells new : List Cell) (trail : List Entry) (marks : List Lengths) (vars : ℕ) (room : Room) (shown : Shown) → IsStore cells trail marks vars → ◌≡◌ {A = Shown} (view_of cells trail marks room) shown → new ≡ cells ++ Var vars ∷ []
    → map (shown_at (map written new) trail) marks ≡ shown.marks
marks-variable cells new trail marks vars room shown h view pushed =
    ap (λ cs. map (shown_at cs trail) marks) (ap (map written) pushed ∙ written-push cells (Var vars) refl)
    ∙ (marks-cell (map written cells) trail (Var vars) marks h.marks_ ∙ ap (λ s. s.marks) view)

-- a new binding
module _ (cells : List Cell) (trail : List Entry) (marks : List Lengths) (vars var v to : ℕ) (room : Room) (shown : Shown) where
  abbrev bound_trail : List Entry
  bound_trail = trail ++ record { var = var; number = v; to = to } ∷ []

  pub IsStore-binding : IsStore cells trail marks vars → ◌≡◌ {A = Shown} (view_of cells trail marks room) shown
      → var < length cells → get_or cells var Nil ≡ Var v → IsThere shown to → values_under (map written cells) trail v ≡ variable v → occurs v (term_of shown to) ≡ false
      → IsStore (set cells var (Bound v to)) (trail ++ record { var = var; number = v; to = to } ∷ []) marks vars
  IsStore-binding h view within is_var there free apart =
      IsStore-bound cells trail marks vars var v to h within is_var to_there free
      (ap (occurs v) (sym (term-shown cells trail to to_there)) ∙ (ap (λ s. occurs v (get_or s.now.terms to nil)) view ∙ apart))
    where
      to_there : to < length cells
      to_there =
          let P : Shown → Type 0 = λ s. to < length s.now.terms in
          omega (arith, subst P (sym view) there, length-trees_from [] (map written cells), length-map (trees_in (map written cells)) (replaced (values_under (map written cells) trail)), length-map cells written)

  pub terms-binding : ◌≡◌ {A = Shown} (view_of cells trail marks room) shown → get_or cells var Nil ≡ Var v → IsThere shown to
      → map (replaced (values_under (map written (set cells var (Bound v to))) (trail ++ record { var = var; number = v; to = to } ∷ []))) (trees_in (map written (set cells var (Bound v to))))
      ≡ map (replaced (one v (term_of shown to))) shown.now.terms
  terms-binding view is_var there =
      ap (λ cs. map (replaced (values_under cs (trail ++ record { var = var; number = v; to = to } ∷ []))) (trees_in cs)) (written-bound cells var v to is_var)
      ∙ (ap (λ by. map (replaced by) (trees_in (map written cells))) (values_from-push (trees_in (map written cells)) variable trail (record { var = var; number = v; to = to }))
      ∙ (terms-bound (values_under (map written cells) trail) v (replaced (values_under (map written cells) trail) (get_or (trees_in (map written cells)) to nil)) (trees_in (map written cells))
      ∙ (ap (λ tree. map (replaced (one v tree)) (map (replaced (values_under (map written cells) trail)) (trees_in (map written cells)))) (sym (term-shown cells trail to to_there))
      ∙ ap (λ s. map (replaced (one v (get_or s.now.terms to nil))) s.now.terms) view)))
    where
      to_there : to < length cells
      to_there =
          let P : Shown → Type 0 = λ s. to < length s.now.terms in
          omega (arith, subst P (sym view) there, length-trees_from [] (map written cells), length-map (trees_in (map written cells)) (replaced (values_under (map written cells) trail)), length-map cells written)

  pub variables-binding : ◌≡◌ {A = Shown} (view_of cells trail marks room) shown → get_or cells var Nil ≡ Var v → variable_cells 0 (map written (set cells var (Bound v to))) ≡ shown.now.variables
  variables-binding view is_var = ap (variable_cells 0) (written-bound cells var v to is_var) ∙ ap (λ s. s.now.variables) view

  pub marks-bound : IsStore cells trail marks vars → ◌≡◌ {A = Shown} (view_of cells trail marks room) shown → get_or cells var Nil ≡ Var v
      → map (shown_at (map written (set cells var (Bound v to))) (trail ++ record { var = var; number = v; to = to } ∷ [])) marks ≡ shown.marks
  marks-bound h view is_var =
      ap (λ cs. map (shown_at cs (trail ++ record { var = var; number = v; to = to } ∷ [])) marks) (written-bound cells var v to is_var)
      ∙ (marks-binding (map written cells) trail (record { var = var; number = v; to = to }) marks h.marks_ ∙ ap (λ s. s.marks) view)

-- a store put back to a mark
module _ (cells restored : List Cell) (trail : List Entry) (marks : List Lengths) (vars place : ℕ) (mark : Lengths) (room : Room) (shown : Shown) where
  pub IsStore-back : (final : List Cell) (new_trail : List Entry) (new_marks : List Lengths) → IsStore cells trail marks vars
      → slice_get marks place ≡ Some mark → map written restored ≡ map written cells → Agrees restored new_trail
      → new_trail ≡ take mark.trail trail → final ≡ take mark.cells restored → new_marks ≡ take (place + 1) marks → IsStore final new_trail new_marks mark.vars
  IsStore-back final new_trail new_marks h found same agrees is_trail is_final is_marks =
      let P : List Entry → Type 0 = λ es. IsStore final es new_marks mark.vars in
      let Q : List Cell → Type 0 = λ cs. IsStore cs (take mark.trail trail) new_marks mark.vars in
      let R : List Lengths → Type 0 = λ ms. IsStore (take mark.cells restored) (take mark.trail trail) ms mark.vars in
      let N : ℕ → Type 0 = λ n. IsStore (take mark.cells restored) (take mark.trail trail) (take n marks) mark.vars in
      let one_more : suc place ≡ place + 1 = omega arith in
      subst P (sym is_trail) (subst Q (sym is_final) (subst R (sym is_marks) (subst N one_more
      (IsStore-undo cells restored trail marks vars place mark h found same (subst (Agrees restored) is_trail agrees)))))

  final_written : (final : List Cell) → map written restored ≡ map written cells → final ≡ take mark.cells restored → map written final ≡ take mark.cells (map written cells)
  final_written final same is_final = ap (map written) is_final ∙ (sym (take-map written mark.cells restored) ∙ ap (take mark.cells) same)

  pub now-back : (final : List Cell) (new_trail : List Entry) → ◌≡◌ {A = Shown} (view_of cells trail marks room) shown
      → slice_get marks place ≡ Some mark → map written restored ≡ map written cells → new_trail ≡ take mark.trail trail → final ≡ take mark.cells restored
      → slice_get shown.marks place ≡ Some (shown_cells (map written final) new_trail)
  now-back final new_trail view found same is_trail is_final =
      ap (λ s. slice_get s.marks place) (sym view)
      ∙ (slice_get-map (shown_at (map written cells) trail) marks place mark found
      ∙ (ap (λ cs. Some (shown_cells cs (take mark.trail trail))) (sym (final_written final same is_final))
      ∙ ap (λ es. Some (shown_cells (map written final) es)) (sym is_trail)))

  pub marks-back : (final : List Cell) (new_trail : List Entry) (new_marks : List Lengths) → IsStore cells trail marks vars → ◌≡◌ {A = Shown} (view_of cells trail marks room) shown
      → slice_get marks place ≡ Some mark → map written restored ≡ map written cells → new_trail ≡ take mark.trail trail → final ≡ take mark.cells restored → new_marks ≡ take (place + 1) marks
      → map (shown_at (map written final) new_trail) new_marks ≡ take (place + 1) shown.marks
  marks-back final new_trail new_marks h view found same is_trail is_final is_marks =
      let one_more : place + 1 ≡ suc place = omega arith in
      let back : suc place ≡ place + 1 = omega arith in
      ap (λ cs. map (shown_at cs new_trail) new_marks) (final_written final same is_final)
      ∙ (ap (λ es. map (shown_at (take mark.cells (map written cells)) es) new_marks) is_trail
      ∙ (ap (map (shown_at (take mark.cells (map written cells)) (take mark.trail trail))) (is_marks ∙ ap (λ n. take n marks) one_more)
      ∙ (marks-undo (map written cells) trail marks place mark h.marks_ h.order found
      ∙ (ap (λ n. take n (map (shown_at (map written cells) trail) marks)) back
      ∙ ap (λ s. take (place + 1) s.marks) view))))

  pub mark_there : ◌≡◌ {A = Shown} (view_of cells trail marks room) shown → place < length shown.marks → place < length marks
  mark_there view within =
      let P : Shown → Type 0 = λ s. place < length s.marks in
      omega (arith, subst P (sym view) within, length-map marks (shown_at (map written cells) trail))

-- one variable more after some
pub new_variables-push : (v n : ℕ) → new_variables v n ++ variable (v + n) ∷ [] ≡ new_variables v (n + 1)
new_variables-push v n = let one_more : suc n ≡ n + 1 = omega arith in push v n ∙ ap (new_variables v) one_more
  where
    push : (v n : ℕ) → new_variables v n ++ variable (v + n) ∷ [] ≡ new_variables v (suc n)
    push v zero = let same : v + 0 ≡ v = omega arith in ap (λ k. variable k ∷ []) same
    push v (suc n) = let same : v + suc n ≡ suc v + n = omega arith in ap (λ ts. variable v ∷ ts) (ap (λ k. new_variables (suc v) n ++ variable k ∷ []) same ∙ push (suc v) n)

pub places_from-push : (v n : ℕ) → places_from v n ++ (v + n) ∷ [] ≡ places_from v (n + 1)
places_from-push v n = let one_more : suc n ≡ n + 1 = omega arith in push v n ∙ ap (places_from v) one_more
  where
    push : (v n : ℕ) → places_from v n ++ (v + n) ∷ [] ≡ places_from v (suc n)
    push v zero = let same : v + 0 ≡ v = omega arith in ap (λ k. k ∷ []) same
    push v (suc n) = let same : v + suc n ≡ suc v + n = omega arith in ap (λ ts. v ∷ ts) (ap (λ k. places_from (suc v) n ++ k ∷ []) same ∙ push (suc v) n)

pub length-new_variables : (v n : ℕ) → length (new_variables v n) ≡ n
length-new_variables v zero = refl
length-new_variables v (suc n) = ap suc (length-new_variables (suc v) n)

pub length-places_from : (v n : ℕ) → length (places_from v n) ≡ n
length-places_from v zero = refl
length-places_from v (suc n) = ap suc (length-places_from (suc v) n)

-- as many terms as cells
pub count_shown : (cells : List Cell) (trail : List Entry) (marks : List Lengths) (room : Room) (shown : Shown) → ◌≡◌ {A = Shown} (view_of cells trail marks room) shown → length cells ≡ length shown.now.terms
count_shown cells trail marks room shown view =
    let counted : length (trees_in (map written cells)) ≡ 0 + length (map written cells) = length-trees_from [] (map written cells) in
    let mapped : length (map (replaced (values_under (map written cells) trail)) (trees_in (map written cells))) ≡ length (trees_in (map written cells)) = length-map (trees_in (map written cells)) (replaced (values_under (map written cells) trail)) in
    let same : length cells ≡ length (map (replaced (values_under (map written cells) trail)) (trees_in (map written cells))) = omega (arith, length-map cells written) in
    same ∙ ap (λ s. length s.now.terms) view
