use Rattle.std.proofs.Common.{◌-ℤ◌}
use Rattle.le_builtins.specs.Compute.{value_of, number_result}
use Rattle.le_builtins.proofs.dates.days_from_to.Goals as goal

pub returns-in-Err-clause-answer : goal.returns-in-Err-clause-answer
returns-in-Err-clause-answer c = c.in-Err.ensures.refused (number_result (value_of c.args.last.now -ℤ value_of c.args.first.now))
