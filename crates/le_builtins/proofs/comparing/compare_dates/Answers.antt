use Rattle.le_builtins.specs.Numbers.{compares}
use Rattle.le_builtins.specs.Compute.{value_of, truth}
use Rattle.le_builtins.proofs.comparing.compare_dates.Goals as goal

pub returns-in-Err-clause-answer : goal.returns-in-Err-clause-answer
returns-in-Err-clause-answer c = c.in-Err.ensures.refused (truth (compares c.args.comparison (value_of c.args.first.now) (value_of c.args.second.now)))
