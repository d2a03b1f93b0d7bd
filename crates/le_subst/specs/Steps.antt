-- What is found on the way to the solution of equations that are kept as two lists of symbols.
use Rattle.std.specs.Prelude.{◌≡◌, ℕ, suc, true, false, nat_lt, List, [], ◌∷◌, Option, Some, None, if◌then◌else◌}
use Rattle.le_terms.specs.declared.term.Sym.{Sym}
use Rattle.le_terms.specs.declared.term.Sym.TheVariants.{Var}
use Rattle.le_terms.specs.Tree.{Tree}
use Rattle.le_subst.specs.Unifiers.{Equation, Bindings}
use Rattle.le_subst.specs.Solution.{occurs, with_replaced, Solver, run, to_map, solve_of}
use Rattle.le_subst.specs.Symbols.{AreSides, equations_of}
use Rattle.le_subst.specs.declared.solving.Choice.{Choice}
use Rattle.le_subst.specs.declared.solving.Choice.TheVariants.{Left, Right, Neither}
use Rattle.le_subst.specs.declared.solving.Step.{Step}
use Rattle.le_subst.specs.declared.solving.Step.TheVariants.{Solved, Failed, Bound}

-- which of two different symbols is the variable that is bound; of two variables it is the one with the higher number
abbrev pub choice_of : Sym → Sym → Choice
choice_of (Var v) (Var w) = if nat_lt v w then Right w else Left v
choice_of (Var v) right = Left v
choice_of left (Var w) = Right w
choice_of left right = Neither

-- the solver that counts the bindings
abbrev pub to_count : Solver ℕ
to_count = record { solved = 0; failed = 0; binds = λ v tree count. suc count }

-- how many bindings the solution of equations makes
abbrev pub bindings_count : List Equation → ℕ
bindings_count equations = run to_count equations

-- the first binding of some equations, and what is left of them
pub record LeadsTo (equations : List Equation) (v : ℕ) (tree : Tree) (others : List Equation) : Type 0 where
  pub solution : solve_of equations ≡ to_map.binds v tree (solve_of others)
  pub count : bindings_count equations ≡ suc (bindings_count others)

-- what a step says of some equations: their solution, or their first binding and what is left
abbrev pub StepMeans : Step → List Equation → Type 0
StepMeans Solved equations = solve_of equations ≡ Some []
StepMeans Failed equations = solve_of equations ≡ None
StepMeans (Bound v tree left right) equations = AreSides left.items right.items × LeadsTo equations v tree (equations_of left.items right.items)

-- what a step says of a variable that is to be bound to a term before some equations
abbrev pub BindMeans : Step → ℕ → Tree → List Equation → Type 0
BindMeans Solved v tree equations = ⊥
BindMeans Failed v tree equations = occurs v tree ≡ true
BindMeans (Bound w other left right) v tree equations = (occurs v tree ≡ false) × (w ≡ v) × (other ≡ tree) × AreSides left.items right.items × (equations_of left.items right.items ≡ with_replaced v tree equations)

-- the solution once some bindings were made before it, the first one first
abbrev pub bound_after : List (ℕ × Tree) → Option Bindings → Option Bindings
bound_after [] answer = answer
bound_after (binding ∷ bindings) answer = to_map.binds binding.0 binding.1 (bound_after bindings answer)
