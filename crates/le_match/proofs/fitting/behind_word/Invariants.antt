use Rattle.std.proofs.Common.{◌≡◌, slice_range}
use Rattle.le_match.specs.Walks.{behind_word}
use Rattle.le_match.proofs.fitting.behind_word.Given as goal

abbrev pub invariant-loop-at : goal.invariant-loop-at
invariant-loop-at l = behind_word l.layout l.word (slice_range l.layout.tokens l.at l.to) ≡ behind_word l.layout l.word (slice_range l.layout.tokens l.fn.from l.to)
