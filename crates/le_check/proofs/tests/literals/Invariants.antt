use Rattle.le_check.proofs.Built.{AreBuilt}
use Rattle.le_check.proofs.tests.literals.Given as goal

-- the literals so far are built
abbrev pub invariant-loop-place : goal.invariant-loop-place
invariant-loop-place l = AreBuilt l.literals.items l.place
