use Rattle.le_check.proofs.Built.{AreBuiltClauses}
use Rattle.le_check.proofs.tests.clauses.Given as goal

-- the clauses so far are built
abbrev pub invariant-loop-row : goal.invariant-loop-row
invariant-loop-row l = AreBuiltClauses l.clauses.items l.row-index
