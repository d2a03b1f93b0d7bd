use Rattle.std.proofs.Common.{◌≡◌, ◌+◌, ◌*◌}
use Rattle.le_machine.proofs.Built.{AreBuiltClauses}
use Rattle.le_machine.proofs.building.clauses.Given as goal

-- the clauses so far are built
abbrev pub invariant-loop-row : goal.invariant-loop-row
invariant-loop-row l = AreBuiltClauses l.clauses.items l.row-index × (l.line ≡ 11 + 10 * l.row-index)
