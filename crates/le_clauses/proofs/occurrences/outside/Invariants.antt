use Rattle.std.proofs.Common.{◌≡◌, ◌++◌, nat_lt, filter, drop}
use Rattle.le_clauses.specs.Groups.{count_in}
use Rattle.le_clauses.proofs.occurrences.outside.Given as goal

-- those so far with those of what is left are all
abbrev pub invariant-loop-var : goal.invariant-loop-var
invariant-loop-var l = l.outside.items ++ filter (λ v. nat_lt (count_in l.vars v) (count_in l.rule v)) (drop l.var-index l.first) ≡ filter (λ v. nat_lt (count_in l.vars v) (count_in l.rule v)) l.first
