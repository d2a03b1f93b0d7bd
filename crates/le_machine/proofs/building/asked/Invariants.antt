use Rattle.std.proofs.Common.{◌<◌}
use Rattle.std.specs.List.{AllByRecursion}
use Rattle.le_machine.proofs.building.asked.Given as goal

-- the variables so far are a query's
abbrev pub invariant-loop-var : goal.invariant-loop-var
invariant-loop-var l = AllByRecursion (λ one. one.var < 4) l.asked.items
