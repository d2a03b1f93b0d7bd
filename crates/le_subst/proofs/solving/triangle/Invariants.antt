use Rattle.std.proofs.Common.{◌≡◌}
use Rattle.le_subst.specs.Solution.{solve_of}
use Rattle.le_subst.specs.Symbols.{AreSides, equations_of}
use Rattle.le_subst.specs.Steps.{bindings_count, bound_after}
use Rattle.le_subst.proofs.solving.triangle.Given as goal

-- the bindings so far, before the solution of what is left, make the solution of all equations
abbrev pub invariant-loop-bindings : goal.invariant-loop-bindings
invariant-loop-bindings l = record {
  sides : AreSides l.left.items l.right.items;
  same : bound_after l.bindings.items (solve_of (equations_of l.left.items l.right.items)) ≡ solve_of (equations_of l.fn.left.items l.fn.right.items);
}

abbrev pub decreases-loop-bindings : goal.decreases-loop-bindings
decreases-loop-bindings l = bindings_count (equations_of l.left.items l.right.items)
