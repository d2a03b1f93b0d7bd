use Rattle.std.proofs.Common.{◌≡◌, ◌+◌, drop}
use Rattle.std.specs.List.{AllByRecursion}
use Rattle.le_terms.specs.Walks.{symbol_variables}
use Rattle.le_store.specs.Shown.{IsThere}
use Rattle.le_goals.specs.Frames.{cell_term}
use Rattle.le_goals.specs.NoVariables.{have_no_variable}
use Rattle.le_goals.proofs.goals.grounding.are_ground_syms.Given as goal

-- the symbols so far have none
abbrev pub invariant-loop-sym : goal.invariant-loop-sym
invariant-loop-sym l = record {
  left : have_no_variable (cell_term l.store.now l.base) (symbol_variables l.syms) ≡ have_no_variable (cell_term l.store.now l.base) (symbol_variables (drop l.sym-index l.syms));
  there : AllByRecursion (λ v. IsThere l.store (l.base + v)) (symbol_variables (drop l.sym-index l.syms));
}
