-- Bindings after one another.
use Rattle.std.proofs.Common.{◌≡◌, ℕ, ◌==◌, cond, List, [], ◌∷◌, ◌++◌, Option, None, refl, ap}
use Rattle.indexmap.specs.IndexMap.{insert_entry}
use Rattle.le_terms.specs.Tree.{Tree}
use Rattle.le_subst.specs.Unifiers.{Bindings, mapped}
use Rattle.le_subst.specs.Solution.{to_map}
use Rattle.le_subst.specs.Steps.{bound_after}

-- to insert a pair is to map its variable to its tree
pub insert_entry-mapped : (bindings : Bindings) (v : ℕ) (tree : Tree) → insert_entry (λ x y. x == y) bindings v tree ≡ mapped bindings v tree
insert_entry-mapped [] v tree = refl
insert_entry-mapped (binding ∷ bindings) v tree = ap (λ more. cond (v == binding.0) ((binding.0, tree) ∷ bindings) (binding ∷ more)) (insert_entry-mapped bindings v tree)

-- one binding more, after the others
pub bound_after-push : (bindings : List (ℕ × Tree)) (v : ℕ) (tree : Tree) (answer : Option Bindings) → bound_after (bindings ++ (v, tree) ∷ []) answer ≡ bound_after bindings (to_map.binds v tree answer)
bound_after-push [] v tree answer = refl
bound_after-push (binding ∷ bindings) v tree answer = ap (to_map.binds binding.0 binding.1) (bound_after-push bindings v tree answer)

-- bindings before no solution
pub bound_after-none : (bindings : List (ℕ × Tree)) → bound_after bindings None ≡ None
bound_after-none [] = refl
bound_after-none (binding ∷ bindings) = ap (to_map.binds binding.0 binding.1) (bound_after-none bindings)
