use Rattle.le_values.proofs.DayLemmas.{digits_step}
use Rattle.le_values.proofs.day.digits_value.Goals as goal

pub loop-digit-preserved : goal.loop-digit-preserved
loop-digit-preserved c =
    rw c.from.ensures (digits_step c.args.digits.now c.loop-digit.digit-index c.loop-digit.value c.loop-digit-test.true c.requires.digits c.loop-digit.invariant.0 c.loop-digit.invariant.1)
