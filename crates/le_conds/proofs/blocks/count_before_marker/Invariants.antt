use Rattle.std.proofs.Common.{◌≡◌, List, length, drop, ◌+◌, ◌≤◌}
use Rattle.le_conds.specs.Members.{Member, before_marker}
use Rattle.le_conds.specs.Stack.{stacked}
use Rattle.le_conds.proofs.blocks.count_before_marker.Given as goal

-- so many of the last ones stand before a marker, and how many more do is left to say
abbrev pub invariant-loop-k : goal.invariant-loop-k
invariant-loop-k l = record {
  high : l.k ≤ l.count;
  all : (ms : List Member) → l.waiting ≡ stacked ms → length (before_marker ms) ≡ l.k + length (before_marker (drop l.k ms));
}
