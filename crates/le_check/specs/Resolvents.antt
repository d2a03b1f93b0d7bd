-- What becomes of a goal by a step.
use Rattle.std.specs.Prelude.{ℕ, ◌+◌, List, ◌++◌, take, drop}
use Rattle.le_subst.specs.Unifiers.{Bindings, value_at}
use Rattle.le_terms.specs.declared.program.Literal.{Literal}
use Rattle.le_proofs.specs.Goals.{Goal, literals_under, terms_under}

-- a goal with other literals in the place of one, and another next variable, under a unifier
abbrev pub goal_with : Goal → ℕ → ℕ → List Literal → Bindings → Goal
goal_with goal place next new bindings = record {
  next = next;
  literals = literals_under (value_at bindings) (take place goal.literals ++ (new ++ drop (place + 1) goal.literals));
  terms = terms_under (value_at bindings) goal.terms;
}
