use Rattle.std.proofs.Common.{◌≡◌, ◌+◌, ℕ, length}
use Rattle.le_terms.specs.declared.program.Program.{Program}
use Rattle.le_goals.specs.Shown.{Shown as Cells}
use Rattle.le_cells.specs.declared.goals.Searches.{Searches}
use Rattle.le_cells.specs.declared.goals.Turn.{Turn}
use Rattle.le_cells.specs.Keeping.{AreReady}
use Rattle.le_cells.specs.Turns.{Comes, IsReadyTurn, weight, turn_weight}
use Rattle.le_cells.proofs.finding.settle.Given as goal

-- what is done next comes to what was to be done
pub record Goes (program : Program) (left : ℕ) (first_cells : Cells) (before : Searches) (first : Turn) (cells : Cells) (now : Searches) (turn : Turn) : Type 0 where
  pub comes : (budget given : ℕ) → Comes program budget given first_cells before first left → Comes program budget given cells now turn left
  pub ready : IsReadyTurn left cells turn
  pub opens : AreReady left cells.marks now
  pub same : cells.program ≡ program

abbrev pub invariant-loop-turn : goal.invariant-loop-turn
invariant-loop-turn l = Goes l.program l.left l.initial.goals l.initial.searches l.fn.first l.goals l.searches l.turn

abbrev pub decreases-loop-turn : goal.decreases-loop-turn
decreases-loop-turn l = turn_weight l.turn + weight (length l.program.clauses) l.searches
