use Rattle.std.proofs.Common.{◌+◌, ℕ, length}
use Rattle.le_terms.specs.declared.program.Program.{Program}
use Rattle.le_machine.specs.declared.goals.Searches.{Searches}
use Rattle.le_machine.specs.declared.goals.Turn.{Turn}
use Rattle.le_machine.specs.Keeping.{AreReady}
use Rattle.le_machine.specs.Turns.{Comes, IsReadyTurn, weight, turn_weight}
use Rattle.le_machine.proofs.finding.settle.Given as goal

-- what is done next comes to what was to be done
pub record Goes (program : Program) (left : ℕ) (before : Searches) (first : Turn) (now : Searches) (turn : Turn) : Type 0 where
  pub comes : (budget given : ℕ) → Comes program budget given before first left → Comes program budget given now turn left
  pub ready : IsReadyTurn left turn
  pub opens : AreReady left now

abbrev pub invariant-loop-turn : goal.invariant-loop-turn
invariant-loop-turn l = Goes l.program l.left l.initial.searches l.fn.first l.searches l.turn

abbrev pub decreases-loop-turn : goal.decreases-loop-turn
decreases-loop-turn l = turn_weight l.turn + weight (length l.program.clauses) l.searches
