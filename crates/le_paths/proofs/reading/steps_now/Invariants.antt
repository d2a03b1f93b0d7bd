use Rattle.std.proofs.Common.{◌≡◌, map, take}
use Rattle.le_paths.specs.Paths.{step_now}
use Rattle.le_paths.proofs.reading.steps_now.Given as goal

-- the first steps are read
abbrev pub invariant-loop-step : goal.invariant-loop-step
invariant-loop-step l = l.steps.items ≡ map (step_now l.goals.now) (take l.step-index l.path)
