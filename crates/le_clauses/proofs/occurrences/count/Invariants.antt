use Rattle.std.proofs.Common.{◌≡◌, ◌+◌, ◌≤◌, drop}
use Rattle.le_clauses.specs.Groups.{count_in}
use Rattle.le_clauses.proofs.occurrences.count.Given as goal

-- the count so far with that of what is left is the count of all
abbrev pub invariant-loop-other : goal.invariant-loop-other
invariant-loop-other l = record {
  all : l.count + count_in (drop l.other-index l.vars) l.var ≡ count_in l.vars l.var;
  few : l.count ≤ l.other-index;
}
