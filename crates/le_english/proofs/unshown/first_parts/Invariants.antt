use Rattle.std.proofs.Common.{◌≡◌, ◌+◌, ◌-◌, ◌≤◌, length, drop}
use Rattle.le_proofs.specs.Replay.{behind}
use Rattle.le_english.specs.Explanations.{leaves}
use Rattle.le_english.proofs.unshown.first_parts.Given as goal

-- the leaves so far, with those of the parts still to be passed, are those of all parts
abbrev pub invariant-loop-at : goal.invariant-loop-at
invariant-loop-at l = record {
  leaves : l.leaves + leaves l.parts.others l.parts.own (drop l.at l.nodes) ≡ leaves 0 l.count l.nodes;
  rest : behind (l.parts.others + l.parts.own) (drop l.at l.nodes) ≡ behind l.count l.nodes;
  few : l.leaves ≤ l.at;
  within : l.at ≤ length l.nodes;
}

abbrev pub decreases-loop-at : goal.decreases-loop-at
decreases-loop-at l = length l.nodes - l.at
