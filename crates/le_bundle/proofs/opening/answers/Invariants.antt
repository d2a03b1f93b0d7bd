use Rattle.std.proofs.Common.{◌≡◌, ◌+◌, ◌-◌, ◌≤◌, All, length}
use Rattle.le_bundle.specs.Bundle.{answers_read}
use Rattle.le_bundle.specs.Lines.{lines_of}
use Rattle.le_bundle.specs.Parts.{IsShort}
use Rattle.le_bundle.proofs.ReadLemmas.{onto}
use Rattle.le_bundle.proofs.opening.answers.Given as goal

-- the derivations so far, with those still to come, are all
abbrev pub invariant-loop-number : goal.invariant-loop-number
invariant-loop-number l =
    (onto l.derivations.items (answers_read (l.most + 1 - l.number) l.number l.reader.number (lines_of l.reader.rest.now)) ≡ answers_read l.most 1 l.initial.reader.number (lines_of l.initial.reader.rest.now))
    × (length l.derivations.items + 1 ≡ l.number) × (l.number ≤ l.most + 1) × All IsShort l.derivations.items

abbrev pub decreases-loop-number : goal.decreases-loop-number
decreases-loop-number l = l.most + 1 - l.number
