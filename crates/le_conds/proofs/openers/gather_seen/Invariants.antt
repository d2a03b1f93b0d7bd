use Rattle.std.proofs.Common.{◌≡◌, ◌≤◌}
use Rattle.le_conds.specs.Openers.{each_end, gather_end}
use Rattle.le_conds.proofs.openers.gather_seen.Given as goal

-- what was found so far
abbrev pub invariant-loop-k : goal.invariant-loop-k
invariant-loop-k l = record {
  begun : l.fn.from ≤ l.k;
  each : l.seen.each ≡ each_end l.layout l.fn.from l.k;
  such_that : l.seen.such_that ≡ gather_end l.layout l.fn.from l.k;
}
