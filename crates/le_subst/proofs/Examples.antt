-- Worked examples of the definitions.
use Rattle.std.proofs.Common.{◌≡◌, pos, [], ◌∷◌, Some, None, refl}
use Rattle.le_terms.specs.Tree.{constant, number, variable, nil, cell}
use Rattle.le_subst.specs.Unifiers.{apply}
use Rattle.le_subst.specs.Solution.{run, solve_of}

-- variables are replaced all at once
pub all_at_once : apply ((1, variable 2) ∷ (2, variable 1) ∷ []) (cell (variable 1) (cell (variable 2) (variable 3))) ≡ cell (variable 2) (cell (variable 1) (variable 3))
all_at_once = refl

-- of two variables the one with the higher number is bound, whichever side it stands on
pub higher_bound : solve_of ((variable 5, variable 2) ∷ []) ≡ Some ((5, variable 2) ∷ [])
unfolding run
higher_bound = refl

pub higher_bound_right : solve_of ((variable 2, variable 5) ∷ []) ≡ Some ((5, variable 2) ∷ [])
unfolding run
higher_bound_right = refl

-- a variable that is one with a list that holds it has no unifier
pub occurs_check : solve_of ((variable 1, cell (number (pos 1)) (variable 1)) ∷ []) ≡ None
unfolding run
occurs_check = refl

-- [X, Y | X] and [Z, 7, Z]: X is bound to the list of Z
pub shared_variables : solve_of ((cell (variable 1) (cell (variable 2) (variable 1)), cell (cell (variable 3) nil) (cell (number (pos 7)) (cell (variable 3) nil))) ∷ [])
    ≡ Some ((2, number (pos 7)) ∷ (1, cell (variable 3) nil) ∷ [])
unfolding run
shared_variables = refl

-- a later binding stands in the term of an earlier one
pub later_binding : solve_of ((variable 1, cell (variable 2) nil) ∷ (variable 2, constant 4) ∷ []) ≡ Some ((2, constant 4) ∷ (1, cell (constant 4) nil) ∷ [])
unfolding run
later_binding = refl

-- two constants
pub two_constants : solve_of ((constant 4, constant 5) ∷ []) ≡ None
unfolding run
two_constants = refl
