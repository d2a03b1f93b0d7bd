use Rattle.std.proofs.Common.{◌≡◌, ◌≤◌, ℕ}
use Rattle.le_terms.specs.declared.program.Program.{Program}
use Rattle.le_goals.specs.Shown.{Shown as Cells}
use Rattle.le_cells.specs.declared.goals.Searches.{Searches}
use Rattle.le_cells.specs.declared.goals.Turn.{Turn}
use Rattle.le_cells.specs.Keeping.{AreReady}
use Rattle.le_cells.specs.Turns.{Comes, IsReadyTurn}
use Rattle.le_cells.proofs.finding.find.Given as goal

-- what is done next comes to what was to be done
pub record Goes (program : Program) (before left : ℕ) (first_cells : Cells) (then_ : Searches) (first : Turn) (cells : Cells) (now : Searches) (turn : Turn) : Type 0 where
  pub comes : (budget given : ℕ) → Comes program budget given first_cells then_ first before → Comes program budget given cells now turn left
  pub ready : IsReadyTurn left cells turn
  pub opens : AreReady left cells.marks now
  pub fewer : left ≤ before
  pub same : cells.program ≡ program

abbrev pub invariant-loop-goal : goal.invariant-loop-goal
invariant-loop-goal l = Goes l.program l.initial.left l.left l.initial.goals l.initial.searches l.fn.first l.goals l.searches l.turn

abbrev pub decreases-loop-goal : goal.decreases-loop-goal
decreases-loop-goal l = l.left
