use Rattle.std.proofs.Common.{◌≡◌, drop}
use Rattle.le_terms.specs.Variables.{all_occurrences}
use Rattle.le_terms.specs.Walks.{all_noted}
use Rattle.le_listing.proofs.variables.note_terms.Given as goal

-- what is noted so far, with the variables of the terms that are left, is what all of them make
abbrev pub invariant-loop-term : goal.invariant-loop-term
invariant-loop-term l = all_noted l.set.keys (all_occurrences (drop l.term-index l.terms)) ≡ all_noted l.fn.set.keys (all_occurrences l.terms)
