use Rattle.std.proofs.Common.{◌≡◌, map, take}
use Rattle.le_terms.specs.Tree.{variable}
use Rattle.le_clauses.proofs.occurrences.variables.Given as goal

-- the terms so far are those of the variables so far
abbrev pub invariant-loop-var : goal.invariant-loop-var
invariant-loop-var l = l.terms.items ≡ map variable (take l.var-index l.vars)
