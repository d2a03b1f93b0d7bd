use Rattle.std.proofs.Common.{◌≡◌, ◌++◌}
use Rattle.le_layout.specs.Words.{spaced}
use Rattle.le_layout.proofs.SpacedLemmas.{after, texts}
use Rattle.le_layout.proofs.layout.Layout.spaced.Given as goal

-- the text so far, with the words that are left, is the whole
abbrev pub invariant-loop-at : goal.invariant-loop-at
invariant-loop-at l = l.text ++ after (texts l.self l.at l.at-end) ≡ spaced (texts l.self l.fn.tokens.from l.fn.tokens.to)
