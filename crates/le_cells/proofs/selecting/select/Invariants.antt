use Rattle.std.proofs.Common.{◌≡◌, ◌-◌, ◌≤◌, length, option_map}
use Rattle.le_proofs.specs.Goals.{selected}
use Rattle.le_cells.specs.Keeping.{goal_now}
use Rattle.le_cells.proofs.Picking.{place_from}
use Rattle.le_cells.proofs.selecting.select.Given as goal

-- the selected literal is that of the rest
abbrev pub invariant-loop-shape : goal.invariant-loop-shape
invariant-loop-shape l =
    option_map (λ picked. length picked.before) (selected l.version (goal_now l.goals l.goal).literals) ≡ place_from l.version (goal_now l.goals l.goal).literals l.place

abbrev pub decreases-loop-shape : goal.decreases-loop-shape
decreases-loop-shape l = length (goal_now l.goals l.goal).literals - l.place
