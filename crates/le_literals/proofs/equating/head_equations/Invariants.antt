use Rattle.std.proofs.Common.{◌≡◌, ◌++◌, drop, zip}
use Rattle.le_proofs.specs.Goals.{terms_under, raised}
use Rattle.le_literals.proofs.equating.head_equations.Given as goal

-- the equations so far and those of the rest are all
abbrev pub invariant-loop-place : goal.invariant-loop-place
invariant-loop-place l = l.equations.items ++ zip (terms_under (raised l.next) (drop l.place l.head)) (drop l.place l.args) ≡ zip (terms_under (raised l.next) l.head) l.args
