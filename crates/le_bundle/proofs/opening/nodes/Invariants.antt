use Rattle.std.proofs.Common.{◌≡◌, ◌+◌, ◌*◌, ◌≤◌, length}
use Rattle.le_bundle.specs.Bundle.{nodes_read}
use Rattle.le_bundle.specs.Lines.{lines_of}
use Rattle.le_bundle.proofs.ReadLemmas.{onto}
use Rattle.le_bundle.proofs.opening.nodes.Given as goal

-- the nodes so far, with those still to come, are all, and each took five bytes or more
abbrev pub invariant-loop-left : goal.invariant-loop-left
invariant-loop-left l =
    (onto l.nodes.items (nodes_read l.left l.reader.number (lines_of l.reader.rest.now)) ≡ nodes_read l.fn.count l.initial.reader.number (lines_of l.initial.reader.rest.now))
    × (5 * length l.nodes.items + length l.reader.rest.now ≤ length l.initial.reader.rest.now)

abbrev pub decreases-loop-left : goal.decreases-loop-left
decreases-loop-left l = l.left
