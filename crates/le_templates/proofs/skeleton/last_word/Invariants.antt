use Rattle.std.proofs.Common.{◌≡◌, ◌≤◌, ◌==◌, length, drop, false}
use Rattle.std.specs.List.{list_any}
use Rattle.le_templates.proofs.skeleton.last_word.Given as goal

-- no space stands from here on
abbrev pub invariant-loop-from : goal.invariant-loop-from
invariant-loop-from l = (l.from ≤ length l.phrase) × (list_any (λ c. c == 32) (drop l.from l.phrase) ≡ false)

abbrev pub decreases-loop-from : goal.decreases-loop-from
decreases-loop-from l = l.from
