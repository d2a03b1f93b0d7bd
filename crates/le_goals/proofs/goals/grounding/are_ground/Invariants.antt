use Rattle.std.proofs.Common.{◌≡◌, drop}
use Rattle.le_terms.specs.Variables.{all_occurrences}
use Rattle.le_goals.specs.Frames.{cell_term}
use Rattle.le_goals.specs.NoVariables.{have_no_variable}
use Rattle.le_goals.proofs.goals.grounding.are_ground.Given as goal

-- the terms so far have none
abbrev pub invariant-loop-term : goal.invariant-loop-term
invariant-loop-term l = have_no_variable (cell_term l.store.now l.base) (all_occurrences l.terms) ≡ have_no_variable (cell_term l.store.now l.base) (all_occurrences (drop l.term-index l.terms))
