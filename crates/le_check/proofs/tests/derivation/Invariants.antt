use Rattle.std.proofs.Common.{◌≤◌, length}
use Rattle.le_check.proofs.tests.derivation.Given as goal

-- there is at most one node for each row so far
abbrev pub invariant-loop-row : goal.invariant-loop-row
invariant-loop-row l = length l.nodes.items ≤ l.row-index
