use Rattle.std.proofs.Common.{◌≡◌, drop}
use Rattle.le_terms.specs.Variables.{all_occurrences}
use Rattle.le_literals.proofs.grounding.is_ground_atom.Given as goal

-- the variables of all are those of the rest
abbrev pub invariant-loop-term : goal.invariant-loop-term
invariant-loop-term l = all_occurrences l.atom.args ≡ all_occurrences (drop l.term-index l.term-items)
