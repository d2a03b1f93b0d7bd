use Rattle.std.proofs.Common.{◌≡◌, List, length, drop, ◌-◌, ◌≤◌}
use Rattle.le_conds.specs.Members.{Member, deepest_of}
use Rattle.le_conds.specs.Stack.{stacked}
use Rattle.le_conds.proofs.blocks.deepest.Given as goal

-- the greatest column among the last so many members
abbrev pub invariant-loop-member : goal.invariant-loop-member
invariant-loop-member l = record {
  high : l.member-index ≤ length l.members;
  found : (ms : List Member) → l.members ≡ stacked ms → l.deepest ≡ deepest_of (drop (length ms - l.member-index) ms);
}
