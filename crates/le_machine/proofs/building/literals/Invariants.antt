use Rattle.std.proofs.Common.{◌+◌, ◌-◌, ◌≤◌, length}
use Rattle.le_machine.proofs.Built.{AreBuilt}
use Rattle.le_machine.proofs.building.literals.Given as goal

abbrev pub decreases-loop-at : goal.decreases-loop-at
decreases-loop-at l = length l.letters - l.at

-- the literals so far are built, and no more than their letters
abbrev pub invariant-loop-at : goal.invariant-loop-at
invariant-loop-at l = AreBuilt l.literals.items l.at × (l.at ≤ length l.fn.letters) × (l.line ≤ 1000 + l.at)
