-- What a look-up in a map says of the tree that the map has for a variable.
use Rattle.std.proofs.Common.{◌≡◌, ℕ, Bool, true, false, cond, ◌==◌, [], ◌∷◌, Some, None, refl, sym}
use Rattle.std.specs.Map.{lookup}
use Rattle.le_terms.specs.Tree.{Tree, variable}
use Rattle.le_subst.specs.Unifiers.{Bindings, value_at}

-- a variable that is found
pub value_at-found : (bindings : Bindings) (v : ℕ) (tree : Tree) → Some tree ≡ lookup (λ w. v == w) bindings → value_at bindings v ≡ tree
value_at-found [] v tree found = absurd (cc found)
value_at-found (binding ∷ bindings) v tree found = by_test (v == binding.0) found (value_at-found bindings v tree)
  where
    by_test : (b : Bool) → Some tree ≡ cond b (Some binding.1) (lookup (λ w. v == w) bindings) → (Some tree ≡ lookup (λ w. v == w) bindings → value_at bindings v ≡ tree)
        → cond b binding.1 (value_at bindings v) ≡ tree
    by_test true is more = let inner : tree ≡ binding.1 = (cc is) in sym inner
    by_test false is more = more is

-- a variable that isn't found
pub value_at-missing : (bindings : Bindings) (v : ℕ) → None ≡ lookup (λ w. v == w) bindings → value_at bindings v ≡ variable v
value_at-missing [] v missing = refl
value_at-missing (binding ∷ bindings) v missing = by_test (v == binding.0) missing (value_at-missing bindings v)
  where
    by_test : (b : Bool) → None ≡ cond b (Some binding.1) (lookup (λ w. v == w) bindings) → (None ≡ lookup (λ w. v == w) bindings → value_at bindings v ≡ variable v)
        → cond b binding.1 (value_at bindings v) ≡ variable v
    by_test true is more = absurd (cc is)
    by_test false is more = more is
