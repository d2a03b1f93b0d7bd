use Rattle.std.proofs.Common.{◌≡◌, map, take}
use Rattle.le_clauses.specs.Groups.{numbered}
use Rattle.le_clauses.proofs.numbering.numbered_all.Given as goal

-- the clauses so far are numbered
abbrev pub invariant-loop-clause : goal.invariant-loop-clause
invariant-loop-clause l = l.new.items ≡ map numbered (take l.clause-index l.clauses)
