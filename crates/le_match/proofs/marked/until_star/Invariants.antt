use Rattle.std.proofs.Common.{◌≡◌, ◌+◌, slice_range}
use Rattle.le_match.specs.Readings.{until_star}
use Rattle.le_match.proofs.marked.until_star.Given as goal

abbrev pub invariant-loop-at : goal.invariant-loop-at
invariant-loop-at l = l.at + until_star (slice_range l.layout.tokens l.at l.to) ≡ l.fn.from + until_star (slice_range l.layout.tokens l.fn.from l.to)
