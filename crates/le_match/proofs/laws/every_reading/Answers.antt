use Rattle.le_match.proofs.OrderLemmas.{readings_read, readings_used, readings_whole, readings_order}
use Rattle.le_match.proofs.laws.every_reading.Goals as goal

pub returns : goal.returns
returns c = record { fit = readings_read; used = readings_used; whole = readings_whole; order = readings_order }
