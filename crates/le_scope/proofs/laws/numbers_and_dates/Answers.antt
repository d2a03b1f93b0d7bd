use Rattle.le_scope.proofs.ValueLemmas.{number_is, day_is}
use Rattle.le_scope.proofs.laws.numbers_and_dates.Goals as goal

pub returns : goal.returns
returns c = record { number = number_is; day = day_is }
