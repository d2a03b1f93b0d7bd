use Rattle.std.proofs.Common.{◌≡◌, ◌++◌, drop}
use Rattle.le_terms.specs.Variables.{all_occurrences}
use Rattle.le_clauses.proofs.occurrences.add_terms.Given as goal

-- the variables so far with those of the terms that are left are all
abbrev pub invariant-loop-term : goal.invariant-loop-term
invariant-loop-term l = l.vars.items ++ all_occurrences (drop l.term-index l.terms) ≡ l.fn.vars.items ++ all_occurrences l.terms
