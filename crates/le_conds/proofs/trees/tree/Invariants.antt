use Rattle.std.proofs.Common.{◌≡◌, ◌≤◌, ◌-◌, length, drop, vec_len, None}
use Rattle.le_conds.specs.Members.{members_of}
use Rattle.le_conds.specs.Faults.{each_fault, least_onto}
use Rattle.le_conds.specs.Stack.{stacked, turned}
use Rattle.le_conds.proofs.trees.tree.Given as goal

-- the members that the last so many items make wait, with the conditions of their trees and the fault that decides
abbrev pub invariant-loop-k : goal.invariant-loop-k
invariant-loop-k l = record {
  high : l.k ≤ length l.entries;
  few : vec_len l.waiting ≤ l.k;
  waiting : l.waiting.items ≡ stacked (members_of (drop (length l.entries - l.k) l.entries));
  nodes : l.nodes.items ≡ turned (members_of (drop (length l.entries - l.k) l.entries));
  fault : l.fault ≡ least_onto (each_fault (drop (length l.entries - l.k) l.entries)) None;
}
