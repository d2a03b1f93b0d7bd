use Rattle.std.proofs.Common.{◌≡◌, ◌-◌, ◌≤◌, drop, length}
use Rattle.le_prooftext.specs.Reading.{nodes_from}
use Rattle.le_prooftext.proofs.TextLemmas.{puts_nodes}
use Rattle.le_prooftext.proofs.text.nodes_from.Given as goal

-- the nodes so far, with those of the rest, are all
abbrev pub invariant-loop-done : goal.invariant-loop-done
invariant-loop-done l = record {
  within : l.at ≤ length l.bytes;
  all : nodes_from l.count l.bytes ≡ puts_nodes l.nodes.items l.at (nodes_from (l.count - l.done) (drop l.at l.bytes));
}
