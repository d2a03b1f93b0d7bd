use Rattle.std.proofs.Common.{◌≡◌, ◌++◌, drop}
use Rattle.le_terms.specs.Variables.{all_occurrences}
use Rattle.le_terms.specs.Program.{literals_terms}
use Rattle.le_clauses.proofs.numbering.add_literals.Given as goal

-- the variables so far with those of what is left are all
abbrev pub invariant-loop-literal : goal.invariant-loop-literal
invariant-loop-literal l = l.vars.items ++ all_occurrences (literals_terms (drop l.literal-index l.literals)) ≡ l.fn.vars.items ++ all_occurrences (literals_terms l.literals)
