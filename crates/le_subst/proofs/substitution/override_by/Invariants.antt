use Rattle.std.proofs.Common.{◌≡◌, ℕ, vec_len}
use Rattle.le_subst.specs.Unifiers.{overridden}
use Rattle.le_subst.proofs.substitution.override_by.Given as goal

-- the pairs that are left, over the map so far, have what all of them have
abbrev pub invariant-loop-var : goal.invariant-loop-var
invariant-loop-var l = (v : ℕ) → overridden l.map.entries l.images.items v ≡ overridden l.fn.map.entries l.fn.images.items v

abbrev pub decreases-loop-var : goal.decreases-loop-var
decreases-loop-var l = vec_len l.images
