-- What unification does to a store, and the equations that it still has to solve.
use Rattle.std.specs.Prelude.{◌≡◌, ℕ, ◌+◌, ◌<◌, Bool, true, false, List, [], ◌∷◌, map, length, Some, None}
use Rattle.std.specs.List.{AllByRecursion}
use Rattle.le_terms.specs.Tree.{Tree}
use Rattle.le_subst.specs.Unifiers as unifiers
use Rattle.le_subst.specs.Unifiers.{Equation, Bindings, IsMgu, apply}
use Rattle.le_subst.specs.Solution.{solve_of, run, after, against, move, dropped, split, contradictory, size}
use Rattle.le_store.specs.declared.store.Look.{Look}
use Rattle.le_store.specs.declared.store.Look.TheVariants.{Name, Num, Day, Nil, Cons, Unbound}
use Rattle.le_unify.specs.declared.unifying.PairStep.{PairStep}
use Rattle.le_unify.specs.declared.unifying.PairStep.TheVariants.{Same, Different, Parts, Against}
use Rattle.le_subst.specs.Steps.{to_count}
use Rattle.le_subst.specs.Solution.{to_map}
use Rattle.le_store.specs.Shown.{Snapshot, Shown, term_in, term_of, IsThere, IsUnbound}
use Rattle.le_unify.specs.declared.unifying.Step.{Step}
use Rattle.le_unify.specs.declared.unifying.Step.TheVariants.{Solved, Failed, Bind}

-- no cell came or went, the variables' cells are the same, and so are the marks
pub record HasSameCells (old new : Shown) : Type 0 where
  pub count : length new.now.terms ≡ length old.now.terms
  pub variables : new.now.variables ≡ old.now.variables
  pub marks : new.marks ≡ old.marks

-- each cell's term is that term under the solution of some equations; or they have none
abbrev pub Unifies : Shown → Shown → List Equation → Bool → Type 0
Unifies old new equations true = (bindings : Bindings) × (solve_of equations ≡ Some bindings) × (new.now.terms ≡ map (apply bindings) old.now.terms)
Unifies old new equations false = solve_of equations ≡ None

-- what that says of all substitutions: the bindings that were made are a most general unifier; or no substitution makes the sides of each equation equal
abbrev pub IsGeneral : Shown → Shown → List Equation → Bool → Type 0
IsGeneral old new equations true = (bindings : Bindings) × IsMgu bindings equations × (new.now.terms ≡ map (apply bindings) old.now.terms)
IsGeneral old new equations false = (by : ℕ → Tree) → unifiers.Unifies by equations → ⊥

-- the equations of pairs of cells, the last pair first
abbrev pub equations_in : Snapshot → List (ℕ × ℕ) → List Equation → List Equation
equations_in snapshot [] following = following
equations_in snapshot (pair ∷ pairs) following = equations_in snapshot pairs ((term_in snapshot pair.0, term_in snapshot pair.1) ∷ following)

abbrev pub AreThere : Shown → List (ℕ × ℕ) → Type 0
AreThere shown pairs = AllByRecursion (λ pair. IsThere shown pair.0 × IsThere shown pair.1) pairs

-- what is found on the way to the first binding of some equations: none is left; they contradict; or a variable is against the term of a cell, before the equations that are left
abbrev pub StepMeans : Shown → Step → List Equation → List Equation → Type 0
StepMeans shown Solved equations rest = solve_of equations ≡ Some []
StepMeans shown Failed equations rest = solve_of equations ≡ None
StepMeans shown (Bind var to) equations rest =
    IsThere shown to × ((v : ℕ) × IsUnbound shown var v
    × (run to_map equations ≡ after to_map (run to_map) (run to_map) (against v (term_of shown to)) rest)
    × (run to_count equations ≡ after to_count (run to_count) (run to_count) (against v (term_of shown to)) rest))

-- what one pair of terms asks for: nothing; what can't be; the pairs of the heads and of the tails; or that a variable is bound to a cell's term, unless it occurs in it
abbrev pub PairMeans : Shown → Tree → Tree → PairStep → Type 0
PairMeans shown left right Same = move left right ≡ dropped
PairMeans shown left right Different = move left right ≡ contradictory
PairMeans shown left right (Parts head other_head tail other_tail) =
    (IsThere shown head × IsThere shown other_head) × ((IsThere shown tail × IsThere shown other_tail)
    × (move left right ≡ split (term_of shown head, term_of shown other_head) (term_of shown tail, term_of shown other_tail))
    × (size (term_of shown head) + size (term_of shown tail) < size left))
PairMeans shown left right (Against var to) = IsThere shown to × ((v : ℕ) × IsUnbound shown var v × (move left right ≡ against v (term_of shown to)))

-- a first symbol that isn't a variable
abbrev pub IsRigid : Look → Type 0
IsRigid (Name n) = Unit {0}
IsRigid (Num z) = Unit {0}
IsRigid (Day d) = Unit {0}
IsRigid Nil = Unit {0}
IsRigid (Cons head tail) = Unit {0}
IsRigid (Unbound var) = ⊥

-- a first symbol that is a term alone
abbrev pub IsLeaf : Look → Type 0
IsLeaf (Name n) = Unit {0}
IsLeaf (Num z) = Unit {0}
IsLeaf (Day d) = Unit {0}
IsLeaf Nil = Unit {0}
IsLeaf (Cons head tail) = ⊥
IsLeaf (Unbound var) = ⊥
