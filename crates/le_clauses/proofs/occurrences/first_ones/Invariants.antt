use Rattle.std.proofs.Common.{◌≡◌, [], drop}
use Rattle.le_terms.specs.Walks.{all_noted}
use Rattle.le_clauses.proofs.occurrences.first_ones.Given as goal

-- what is noted so far, with the variables that are left, is what all of them make
abbrev pub invariant-loop-var : goal.invariant-loop-var
invariant-loop-var l = all_noted l.seen.keys (drop l.var-index l.vars) ≡ all_noted [] l.vars
