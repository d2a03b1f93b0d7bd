-- What becomes of the cells where two terms are made equal.
use Rattle.std.specs.Prelude.{◌≡◌, ℕ, Bool, true, false, List, [], ◌∷◌, ◌++◌, map, Some, None}
use Rattle.le_terms.specs.Tree.{Tree}
use Rattle.le_subst.specs.Unifiers.{Bindings, apply}
use Rattle.le_subst.specs.Solution.{solve_of}
use Rattle.le_store.specs.Shown.{Shown, IsThere, term_of}

-- a cell is there, and its term is this one
pub record IsCellOf (shown : Shown) (tree : Tree) (cell : ℕ) : Type 0 where
  pub there : IsThere shown cell
  pub term_ : term_of shown cell ≡ tree

-- other cells after the old ones, and all under a unifier
pub record UnifiesCells (old new : Shown) (bindings : Bindings) : Type 0 where
  pub more : List Tree
  pub terms_ : new.now.terms ≡ map (apply bindings) (old.now.terms ++ more)
  pub variables_ : new.now.variables ≡ old.now.variables

-- the most general unifier of two terms; or they have none
abbrev pub UnifiesPair : Shown → Shown → Tree → Tree → Bool → Type 0
UnifiesPair old new left right false = solve_of ((left, right) ∷ []) ≡ None
UnifiesPair old new left right true = (bindings : Bindings) × (solve_of ((left, right) ∷ []) ≡ Some bindings) × UnifiesCells old new bindings
