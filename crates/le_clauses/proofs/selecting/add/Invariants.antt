use Rattle.std.proofs.Common.{◌≡◌, ◌++◌, take}
use Rattle.le_clauses.proofs.selecting.add.Given as goal

abbrev pub invariant-loop-clause : goal.invariant-loop-clause
invariant-loop-clause l = l.clauses.items ≡ l.fn.clauses.items ++ take l.clause-index l.more
