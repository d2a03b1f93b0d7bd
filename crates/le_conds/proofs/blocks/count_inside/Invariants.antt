use Rattle.std.proofs.Common.{◌≡◌, List, length, drop, ◌+◌, ◌≤◌}
use Rattle.le_conds.specs.Members.{Member, inside}
use Rattle.le_conds.specs.Stack.{stacked}
use Rattle.le_conds.proofs.blocks.count_inside.Given as goal

-- so many of the last ones belong to the scope, and how many more do is left to say
abbrev pub invariant-loop-k : goal.invariant-loop-k
invariant-loop-k l = record {
  high : l.k ≤ l.count;
  all : (ms : List Member) → l.waiting ≡ stacked ms → length (inside l.column ms) ≡ l.k + length (inside l.column (drop l.k ms));
}
