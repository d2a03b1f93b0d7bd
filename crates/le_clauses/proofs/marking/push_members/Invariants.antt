use Rattle.std.proofs.Common.{◌≡◌, ◌++◌, reverse}
use Rattle.le_clauses.specs.Walks.{members}
use Rattle.le_clauses.proofs.marking.push_members.Given as goal

-- so many members stand there
abbrev pub invariant-loop : goal.invariant-loop
invariant-loop l = reverse l.modes.items ≡ members l.counter ++ reverse l.fn.modes.items
