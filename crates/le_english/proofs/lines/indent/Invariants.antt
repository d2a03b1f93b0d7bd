use Rattle.std.proofs.Common.{◌≡◌, ◌-◌, ◌++◌}
use Rattle.le_english.specs.Explanations.{indent}
use Rattle.le_english.proofs.lines.indent.Given as goal

-- the spaces so far, with those of the steps still to come, are all spaces
abbrev pub invariant-loop-step : goal.invariant-loop-step
invariant-loop-step l = l.text ++ indent (l.depth - l._step) ≡ indent l.depth
