use Rattle.le_check.proofs.Choosing.{ArePassed}
use Rattle.le_check.proofs.selecting.select.Given as goal

-- the literals so far are passed over
abbrev pub invariant-loop-place : goal.invariant-loop-place
invariant-loop-place l = ArePassed l.version l.literals l.place
