use Rattle.std.proofs.Common.{◌≡◌, ◌≤◌, drop, length}
use Rattle.le_proofs.specs.Replay.{behind}
use Rattle.le_check.proofs.parts.place_after.Given as goal

-- after the parts that are left is what is after all
abbrev pub invariant-loop-left : goal.invariant-loop-left
invariant-loop-left l = record {
  low : l.from ≤ l.at;
  high : l.at ≤ length l.nodes;
  rest : behind l.left (drop l.at l.nodes) ≡ behind l.count (drop l.from l.nodes);
}

-- proposed from the loop's first test
abbrev pub decreases-loop-left : goal.decreases-loop-left
decreases-loop-left l = l.left
