-- The clauses that unify with an atom, clause by clause, and how many were tried.
use Rattle.std.specs.List.{cons_option}
use Rattle.std.specs.Prelude.{◌==◌, option_map, count_by, cond}
use Rattle.std.proofs.Common.{◌≡◌, ◌≢◌, ℕ, ◌+◌, ◌<◌, ◌≤◌, true, false, List, [], ◌∷◌, ◌++◌, append_assoc, map, take, drop, length, get_or, Option, Some, None, ⊎_elim, sym, ap, ◌∙◌, add-one, arith}
use Rattle.std.proofs.lemmas.List.Sums.{count_by_more_yes, count_by_more_no, sum_by-take-le}
use Rattle.std.proofs.lemmas.Bool.{cases_eq}
use Rattle.std.proofs.lemmas.Bool.Decides.{Decides-eqb}
use Rattle.std.specs.Option.{is_some}
use Rattle.le_terms.specs.declared.program.Atom.{Atom}
use Rattle.le_terms.specs.declared.program.Clause.{Clause}
use Rattle.le_terms.specs.declared.program.Literal.{Literal}
use Rattle.le_terms.proofs.Preorder.{drop-item}
use Rattle.le_subst.specs.Unifiers.{Bindings}
use Rattle.le_proofs.specs.Goals.{Goal, Picked, Child, children, child_by, head_solution}
use Rattle.le_literals.proofs.Walks.{eq-false}

-- the numbers of the clauses from a place on that give children
abbrev pub numbers_from : Goal → Picked Literal → Atom → List Clause → ℕ → List ℕ
numbers_from goal picked atom clauses i = map (λ (child : Child). child.clause) (children goal picked atom (i + 1) (drop i clauses))

module _ (goal : Goal) (picked : Picked Literal) (atom : Atom) (clauses : List Clause) (i : ℕ) (clause : Clause) (within : i < length clauses) (read : clause ≡ get_or clauses i clause) where
  split : numbers_from goal picked atom clauses i
      ≡ map (λ (child : Child). child.clause) (cons_option (option_map (child_by goal picked (i + 1) clause) (head_solution goal.next clause atom)) (children goal picked atom (i + 1 + 1) (drop (i + 1) clauses)))
  split =
      ap (λ cs. map (λ (child : Child). child.clause) (children goal picked atom (i + 1) cs)) (drop-item clauses i clause within read)
      ∙ ap (λ n. map (λ (child : Child). child.clause) (cons_option (option_map (child_by goal picked (i + 1) clause) (head_solution goal.next clause atom)) (children goal picked atom n (drop (i + 1) clauses)))) (sym (add-one (i + 1)))

  pub found-more : (answer : Option Bindings) (numbers pushed more all : List ℕ) → answer ≡ head_solution goal.next clause atom → is_some answer ≡ true → more ≡ pushed → pushed ≡ numbers ++ (i + 1) ∷ []
      → numbers ++ numbers_from goal picked atom clauses i ≡ all → more ++ numbers_from goal picked atom clauses (i + 1) ≡ all
  found-more None numbers pushed more all same found kept new before = absurd (cc found)
  found-more (Some unifier) numbers pushed more all same found kept new before =
      ap (λ ns. ns ++ numbers_from goal picked atom clauses (i + 1)) (kept ∙ new)
      ∙ (append_assoc numbers ((i + 1) ∷ []) (numbers_from goal picked atom clauses (i + 1))
      ∙ (sym (ap (λ ns. numbers ++ ns) (split ∙ ap (λ o. map (λ (child : Child). child.clause) (cons_option (option_map (child_by goal picked (i + 1) clause) o) (children goal picked atom (i + 1 + 1) (drop (i + 1) clauses)))) (sym same)))
      ∙ before))

  pub missed-more : (answer : Option Bindings) (numbers more all : List ℕ) → answer ≡ head_solution goal.next clause atom → is_some answer ≡ false → more ≡ numbers
      → numbers ++ numbers_from goal picked atom clauses i ≡ all → more ++ numbers_from goal picked atom clauses (i + 1) ≡ all
  missed-more (Some unifier) numbers more all same missed kept before = absurd (cc missed)
  missed-more None numbers more all same missed kept before =
      ap (λ ns. ns ++ numbers_from goal picked atom clauses (i + 1)) kept
      ∙ (sym (ap (λ ns. numbers ++ ns) (split ∙ ap (λ o. map (λ (child : Child). child.clause) (cons_option (option_map (child_by goal picked (i + 1) clause) o) (children goal picked atom (i + 1 + 1) (drop (i + 1) clauses)))) (sym same)))
      ∙ before)

-- how many clauses of a predicate are among some
abbrev pub tally : ℕ → List Clause → ℕ
tally pred clauses = count_by (λ clause. clause.head.pred == pred) clauses

pub tally-more : (pred : ℕ) (clauses : List Clause) (i : ℕ) (clause : Clause) (old before now : ℕ) → i < length clauses → clause ≡ get_or clauses i clause → before ≤ old + tally pred (take i clauses)
    → now ≤ before + 1 → (clause.head.pred ≢ pred → now ≡ before) → now ≤ old + tally pred (take (i + 1) clauses)
tally-more pred clauses i clause old before now within read counted one other =
    ⊎_elim
    (λ (same : clause.head.pred ≡ pred).
    let more : tally pred (take (i + 1) clauses) ≡ tally pred (take i clauses) + 1 =
    count_by_more_yes (λ c. c.head.pred == pred) clauses i clause within (sym (ap (λ c. c.head.pred == pred) read) ∙ (Decides-eqb clause.head.pred pred).1 same) in
    omega arith)
    (λ (unlike : clause.head.pred ≢ pred).
    let same : tally pred (take (i + 1) clauses) ≡ tally pred (take i clauses) =
    count_by_more_no (λ c. c.head.pred == pred) clauses i clause within (sym (ap (λ c. c.head.pred == pred) read) ∙ eq-false clause.head.pred pred unlike) in
    let kept : now ≡ before = other unlike in
    omega arith)
    (cases_eq clause.head.pred pred)

pub tally-all : (pred : ℕ) (clauses : List Clause) (i : ℕ) → tally pred (take i clauses) ≤ tally pred clauses
tally-all pred clauses i = sum_by-take-le (λ c. cond (c.head.pred == pred) 1 0) clauses i
