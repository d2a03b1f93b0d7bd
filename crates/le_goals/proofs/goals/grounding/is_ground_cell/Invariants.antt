use Rattle.std.proofs.Common.{◌≡◌}
use Rattle.std.specs.List.{AllByRecursion}
use Rattle.le_store.specs.Shown.{term_of, IsThere}
use Rattle.le_unify.proofs.Occurring.{sizes}
use Rattle.le_goals.specs.NoVariables.{has_no_variable}
use Rattle.le_goals.proofs.VariableFree.{none_among}
use Rattle.le_goals.proofs.goals.grounding.is_ground_cell.Given as goal

-- what is left has a variable exactly where the cell's term has one
abbrev pub invariant-loop-at : goal.invariant-loop-at
invariant-loop-at l = record {
  there : AllByRecursion (IsThere l.store) l.rest.items;
  left : has_no_variable (term_of l.store l.cell) ≡ none_among l.store l.rest.items;
}

abbrev pub decreases-loop-at : goal.decreases-loop-at
decreases-loop-at l = sizes l.store l.rest.items
