use Rattle.le_values.specs.Days.{months_later}
use Rattle.le_builtins.specs.Compute.{value_of, date_result}
use Rattle.le_builtins.proofs.dates.months_after.Goals as goal

pub returns-in-Err-clause-answer : goal.returns-in-Err-clause-answer
returns-in-Err-clause-answer c = c.in-Err.ensures.refused (date_result (months_later (value_of c.args.day.now) (value_of c.args.count.now)))
