use Rattle.std.proofs.Common.{length, ◌-◌, ◌≡◌, ◌++◌, drop}
use Rattle.le_tool.specs.Lines.{value_lines}
use Rattle.le_tool.proofs.report.push_value_lines.Given as goal

-- the lines so far, with those of the values still to come, are those of all values
abbrev pub invariant-loop-at : goal.invariant-loop-at
invariant-loop-at l = l.text ++ value_lines l.fn.whole (drop l.at l.asked) (drop l.at l.values) ≡ l.initial.text ++ value_lines l.fn.whole l.asked l.values

abbrev pub decreases-loop-at : goal.decreases-loop-at
decreases-loop-at l = length l.asked - l.at
