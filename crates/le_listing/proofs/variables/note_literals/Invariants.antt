use Rattle.std.proofs.Common.{◌≡◌, drop}
use Rattle.le_terms.specs.Variables.{all_occurrences}
use Rattle.le_terms.specs.Program.{literals_terms}
use Rattle.le_terms.specs.Walks.{all_noted}
use Rattle.le_listing.proofs.variables.note_literals.Given as goal

-- what is noted so far, with the variables of the literals that are left, is what all of them make
abbrev pub invariant-loop-literal : goal.invariant-loop-literal
invariant-loop-literal l = all_noted l.set.keys (all_occurrences (literals_terms (drop l.literal-index l.literals))) ≡ all_noted l.fn.set.keys (all_occurrences (literals_terms l.literals))
