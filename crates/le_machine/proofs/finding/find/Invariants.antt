use Rattle.std.proofs.Common.{◌≤◌, ℕ}
use Rattle.le_terms.specs.declared.program.Program.{Program}
use Rattle.le_machine.specs.declared.goals.Searches.{Searches}
use Rattle.le_machine.specs.declared.goals.Turn.{Turn}
use Rattle.le_machine.specs.Keeping.{AreReady}
use Rattle.le_machine.specs.Turns.{Comes, IsReadyTurn}
use Rattle.le_machine.proofs.finding.find.Given as goal

-- what is done next comes to what was to be done
pub record Goes (program : Program) (before left : ℕ) (then_ : Searches) (first : Turn) (now : Searches) (turn : Turn) : Type 0 where
  pub comes : (budget given : ℕ) → Comes program budget given then_ first before → Comes program budget given now turn left
  pub ready : IsReadyTurn left turn
  pub opens : AreReady left now
  pub fewer : left ≤ before

abbrev pub invariant-loop-goal : goal.invariant-loop-goal
invariant-loop-goal l = Goes l.program l.initial.left l.left l.initial.searches l.fn.first l.searches l.turn

abbrev pub decreases-loop-goal : goal.decreases-loop-goal
decreases-loop-goal l = l.left
