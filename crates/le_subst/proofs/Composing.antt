-- A substitution after another one, as a map.
use Rattle.std.proofs.Common.{◌≡◌, ℕ, Bool, true, false, cond, ◌==◌, [], ◌∷◌, ◌++◌, refl, ap, ◌∙◌}
use Rattle.indexmap.specs.IndexMap.{insert_entry}
use Rattle.le_terms.specs.Tree.{Tree}
use Rattle.le_subst.specs.Unifiers.{Bindings, value_at, mapped, apply, images_by, overridden}
use Rattle.le_subst.proofs.Bindings.{insert_entry-mapped}
use Rattle.le_subst.proofs.Replacing.{value_at-mapped}

-- the last of some pairs, put into the map
pub overridden-push : (bindings images : Bindings) (w : ℕ) (tree : Tree) (v : ℕ) → overridden (mapped bindings w tree) images v ≡ overridden bindings (images ++ (w, tree) ∷ []) v
overridden-push bindings [] w tree v = value_at-mapped bindings w tree v
overridden-push bindings (image ∷ images) w tree v = ap (λ t. cond (v == image.0) image.1 t) (overridden-push bindings images w tree v)

pub overridden-insert : (bindings images : Bindings) (w : ℕ) (tree : Tree) (v : ℕ) → overridden (insert_entry (λ x y. x == y) bindings w tree) images v ≡ overridden bindings (images ++ (w, tree) ∷ []) v
overridden-insert bindings images w tree v = ap (λ b. overridden b images v) (insert_entry-mapped bindings w tree) ∙ overridden-push bindings images w tree v

-- the images of a map's pairs over a map are this map after that one
pub overridden-after : (bindings first : Bindings) (v : ℕ) → overridden bindings (images_by bindings first) v ≡ apply bindings (value_at first v)
overridden-after bindings [] v = refl
overridden-after bindings (binding ∷ first) v = by_test (v == binding.0) (overridden-after bindings first v)
  where
    by_test : (b : Bool) → overridden bindings (images_by bindings first) v ≡ apply bindings (value_at first v)
        → cond b (apply bindings binding.1) (overridden bindings (images_by bindings first) v) ≡ apply bindings (cond b binding.1 (value_at first v))
    by_test true rest = refl
    by_test false rest = rest
