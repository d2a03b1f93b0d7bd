-- The solution of equations: the unification algorithm with the occurs check, first equation first (Lloyd, Foundations of Logic Programming, chapter 1, section 4); that of two variables the one with the higher number is bound is this project's profile.
use Rattle.std.specs.Prelude.{ℕ, zero, suc, ◌+◌, ◌==◌, Bool, false, ◌||◌, nat_lt, List, [], ◌∷◌, ◌++◌, length, Option, Some, None, if◌then◌else◌}
use Rattle.std.specs.Ordering.{int_eq}
use Rattle.std.specs.Option.{option_map}
use Rattle.le_terms.specs.Tree.{Tree, constant, number, date, variable, nil, cell}
use Rattle.le_terms.specs.Variables.{occurrences, replaced}
use Rattle.le_subst.specs.Unifiers.{Equation, Bindings, apply, mapped}

-- whether a variable occurs in a term
abbrev pub occurs : ℕ → Tree → Bool
occurs v (constant n) = false
occurs v (number z) = false
occurs v (date d) = false
occurs v (variable w) = v == w
occurs v nil = false
occurs v (cell head tail) = occurs v head || occurs v tail

-- what one equation asks for: nothing, its sides being the same leaf; the equations of the heads and of the tails of two cells; that a variable is bound to a term; or what can't be
pub data Move : Type 0 where
  dropped : Move
  split : Equation → Equation → Move
  bound : ℕ → Tree → Move
  contradictory : Move

-- a variable against another term that isn't a variable: it is bound to the term, unless it occurs in it
abbrev pub against : ℕ → Tree → Move
against v tree = if occurs v tree then contradictory else bound v tree

-- what the equation of two terms asks for
abbrev pub move : Tree → Tree → Move
move (variable v) (variable w) = if v == w then dropped else (if nat_lt v w then bound w (variable v) else bound v (variable w))
move (variable v) right = against v right
move left (variable v) = against v left
move (cell head tail) (cell other_head other_tail) = split (head, other_head) (tail, other_tail)
move (constant m) (constant n) = if m == n then dropped else contradictory
move (number y) (number z) = if int_eq y z then dropped else contradictory
move (date c) (date d) = if int_eq c d then dropped else contradictory
move nil nil = dropped
move left right = contradictory

-- a variable's one replacement
abbrev pub one : ℕ → Tree → ℕ → Tree
one v tree w = if w == v then tree else variable w

-- equations with a variable replaced by a term
abbrev pub with_replaced : ℕ → Tree → List Equation → List Equation
with_replaced v tree [] = []
with_replaced v tree (equation ∷ equations) = (replaced (one v tree) equation.0, replaced (one v tree) equation.1) ∷ with_replaced v tree equations

-- how many symbols a term has
abbrev pub size : Tree → ℕ
size (constant n) = 1
size (number z) = 1
size (date d) = 1
size (variable v) = 1
size nil = 1
size (cell head tail) = suc (size head + size tail)

-- how many symbols the left sides have
abbrev pub left_size : List Equation → ℕ
left_size [] = 0
left_size (equation ∷ equations) = size equation.0 + left_size equations

-- the places at which variables stand in equations
abbrev pub variable_places : List Equation → List ℕ
variable_places [] = []
variable_places (equation ∷ equations) = occurrences equation.0 ++ (occurrences equation.1 ++ variable_places equations)

-- what is made of equations: of none, of a contradiction, and of a variable's binding and what is made of the equations that are left
pub record Solver (X : Type 0) : Type 0 where
  pub solved : X
  pub failed : X
  pub binds : ℕ → Tree → X → X

-- what is made of a move and of the equations after it
abbrev pub after : {X : Type 0} → Solver X → (List Equation → X) → (List Equation → X) → Move → List Equation → X
after solver same fewer dropped rest = same rest
after solver same fewer (split heads tails) rest = same (heads ∷ tails ∷ rest)
after solver same fewer (bound v tree) rest = solver.binds v tree (fewer (with_replaced v tree rest))
after solver same fewer contradictory rest = solver.failed

-- what is made of equations by at most so many moves before the next binding, after which there are fewer variables
abbrev pub within : {X : Type 0} → Solver X → (List Equation → X) → ℕ → List Equation → X
within solver fewer moves [] = solver.solved
within solver fewer zero (equation ∷ equations) = solver.failed
within solver fewer (suc moves) (equation ∷ equations) = after solver (within solver fewer moves) fewer (move equation.0 equation.1) equations

-- what is made of equations by fewer than so many bindings
abbrev pub by_bindings : {X : Type 0} → Solver X → ℕ → List Equation → X
by_bindings solver zero equations = solver.failed
by_bindings solver (suc count) equations = within solver (by_bindings solver count) (left_size equations) equations

-- what is made of equations, one move after another: there are no more bindings than places of variables, and between two bindings no more moves than symbols
unfoldable pub run : {X : Type 0} → Solver X → List Equation → X
run solver equations = by_bindings solver (suc (length (variable_places equations))) equations

-- the solver whose answer is a map: none is solved by the empty map, a contradiction by none, and a binding adds its variable, mapped to its term under the map of the rest
abbrev pub to_map : Solver (Option Bindings)
to_map = record {
  solved = Some [];
  failed = None;
  binds = λ v tree rest. option_map (λ bindings. mapped bindings v (apply bindings tree)) rest;
}

-- the solution of equations: a map, or none
abbrev pub solve_of : List Equation → Option Bindings
solve_of equations = run to_map equations
