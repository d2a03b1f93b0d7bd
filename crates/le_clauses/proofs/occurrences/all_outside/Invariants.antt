use Rattle.std.proofs.Common.{◌≡◌, nat_lt, drop}
use Rattle.std.specs.List.{list_all}
use Rattle.le_clauses.specs.Groups.{count_in}
use Rattle.le_clauses.proofs.occurrences.all_outside.Given as goal

-- each so far also occurs outside
abbrev pub invariant-loop-var : goal.invariant-loop-var
invariant-loop-var l = list_all (λ v. nat_lt (count_in l.vars v) (count_in l.rule v)) (drop l.var-index l.vars) ≡ list_all (λ v. nat_lt (count_in l.vars v) (count_in l.rule v)) l.vars
