use Rattle.std.proofs.Common.{◌≡◌, List, length, drop, ◌-◌, ◌≤◌, flat_map}
use Rattle.le_conds.specs.Members.{Member}
use Rattle.le_conds.specs.Faults.{member_faults, least_onto}
use Rattle.le_conds.specs.Stack.{stacked}
use Rattle.le_conds.proofs.shape.members_fault.Given as goal

-- the fault that decides among those of the last so many members
abbrev pub invariant-loop-k : goal.invariant-loop-k
invariant-loop-k l = record {
  high : l.k ≤ length l.members;
  found : (ms : List Member) → l.members ≡ stacked ms → l.found ≡ least_onto (flat_map (member_faults l.level l.lead) (drop (length ms - l.k) ms)) l.fn.least;
}
