use Rattle.std.proofs.Common.{◌≡◌, reverse}
use Rattle.le_clauses.specs.Walks.{take_done, drop_done}
use Rattle.le_clauses.proofs.drafting.take_off.Given as goal

-- so many were taken, and the others are left
abbrev pub invariant-loop : goal.invariant-loop
invariant-loop l = record {
  taken : l.taken.items ≡ take_done l.counter (reverse l.fn.stack.items);
  left : reverse l.stack.items ≡ drop_done l.counter (reverse l.fn.stack.items);
}
