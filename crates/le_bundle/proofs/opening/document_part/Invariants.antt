use Rattle.std.proofs.Common.{◌≡◌, ◌++◌, ℕ, List, length}
use Rattle.le_bundle.specs.Bundle.{parted}
use Rattle.le_bundle.specs.Lines.{lines_of}
use Rattle.le_bundle.proofs.ReadLemmas.{after}
use Rattle.le_bundle.proofs.opening.document_part.Given as goal

-- the lines so far, with the part still to come, are the document part
abbrev pub invariant-loop-line : goal.invariant-loop-line
invariant-loop-line l =
    (front : List ℕ) × (length front ≡ l.end) × (front ++ l.reader.rest.now ≡ l.bytes)
    × (after front (parted l.reader.number (lines_of l.reader.rest.now)) ≡ parted l.initial.reader.number (lines_of l.bytes))

abbrev pub decreases-loop-line : goal.decreases-loop-line
decreases-loop-line l = length l.reader.rest.now
