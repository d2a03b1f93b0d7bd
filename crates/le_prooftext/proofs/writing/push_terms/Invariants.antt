use Rattle.std.proofs.Common.{◌≡◌, ◌++◌, take}
use Rattle.le_prooftext.specs.Lines.{terms_words}
use Rattle.le_prooftext.specs.Writing.{spaced}
use Rattle.le_prooftext.proofs.writing.push_terms.Given as goal

-- the terms so far are written
abbrev pub invariant-loop-term : goal.invariant-loop-term
invariant-loop-term l = l.text ≡ l.initial.text ++ spaced (terms_words (take l.term-index l.terms))
