use Rattle.std.proofs.Common.{◌≡◌, [], Some, vec_len}
use Rattle.le_subst.specs.Steps.{bound_after}
use Rattle.le_subst.proofs.substitution.closed.Given as goal

-- the bindings that are left, before the map so far, make what all of them make
abbrev pub invariant-loop-var : goal.invariant-loop-var
invariant-loop-var l = bound_after l.bindings.items (Some l.map.entries) ≡ bound_after l.fn.bindings.items (Some [])

abbrev pub decreases-loop-var : goal.decreases-loop-var
decreases-loop-var l = vec_len l.bindings
