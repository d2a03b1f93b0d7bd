use Rattle.std.proofs.Common.{◌≡◌, ◌-◌, ◌≤◌, ◌++◌, length, drop, reverse}
use Rattle.le_english.specs.Explanations.{explanation, lines_of}
use Rattle.le_english.specs.Said.{IsKnown}
use Rattle.le_english.proofs.explaining.explain.Given as goal

-- the lines so far, with those of the nodes still to come, are the explanation
abbrev pub invariant-loop-at : goal.invariant-loop-at
invariant-loop-at l = record {
  lines : l.so_far.text ++ lines_of l.templates l.names l.program 0 (reverse l.so_far.pending.items) (drop l.at l.nodes) ≡ explanation l.templates l.names l.program l.nodes;
  nodes : l.nodes ≡ l.derivation.nodes;
  within : l.at ≤ length l.nodes;
  known : IsKnown l.templates l.names l.so_far.last;
}

abbrev pub decreases-loop-at : goal.decreases-loop-at
decreases-loop-at l = length l.nodes - l.at
