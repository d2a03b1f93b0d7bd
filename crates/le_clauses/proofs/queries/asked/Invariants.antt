use Rattle.std.proofs.Common.{◌≡◌, take}
use Rattle.le_clauses.specs.Pieces.{asked_by}
use Rattle.le_clauses.proofs.queries.asked.Given as goal

-- those so far are those of the numbers so far
abbrev pub invariant-loop-var : goal.invariant-loop-var
invariant-loop-var l = l.asked.items ≡ asked_by l.scope.names l.vars (take l.var-index l.wanted)
