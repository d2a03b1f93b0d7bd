use Rattle.std.proofs.Common.{◌≡◌, map, take}
use Rattle.le_clauses.specs.Groups.{branch_clause}
use Rattle.le_clauses.proofs.drafting.branch_clauses.Given as goal

-- the clauses so far are those of the bodies so far
abbrev pub invariant-loop-body : goal.invariant-loop-body
invariant-loop-body l = l.clauses.items ≡ map (branch_clause l.head) (take l.body-index l.bodies)
