use Rattle.std.proofs.Common.{◌≡◌, ◌≤◌, take, length, reverse}
use Rattle.le_proofs.specs.Replay.{behind}
use Rattle.le_derivations.proofs.proving.front_end.Given as goal

-- what is after the parts that are left, among the nodes that are left, is what is after all of them
abbrev pub invariant-loop-parts : goal.invariant-loop-parts
invariant-loop-parts l = record {
  inside : l.at ≤ length l.nodes;
  same : behind l.parts (reverse (take l.at l.nodes)) ≡ behind l.proofs (reverse l.nodes);
}

abbrev pub decreases-loop-parts : goal.decreases-loop-parts
decreases-loop-parts l = l.at
