use Rattle.std.proofs.Common.{◌≡◌, ◌≤◌}
use Rattle.le_conds.specs.Openers.{line_begin}
use Rattle.le_conds.proofs.openers.indent.Given as goal

-- the line's first token is no later than this one
abbrev pub invariant-loop-begin : goal.invariant-loop-begin
invariant-loop-begin l = record {
  inside : l.begin ≤ l.fn.k;
  begin : line_begin l.layout l.begin ≡ line_begin l.layout l.fn.k;
}

abbrev pub decreases-loop-begin : goal.decreases-loop-begin
decreases-loop-begin l = l.begin
