use Rattle.std.proofs.Common.{◌≡◌, ◌+◌, slice_range}
use Rattle.le_scope.specs.Lists.{until_end}
use Rattle.le_scope.proofs.parts.item_end.Given as goal

abbrev pub invariant-loop-at : goal.invariant-loop-at
invariant-loop-at l = l.at + until_end (slice_range l.layout.tokens l.at l.to) ≡ l.fn.from + until_end (slice_range l.layout.tokens l.fn.from l.to)
