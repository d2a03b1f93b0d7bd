use Rattle.le_english.proofs.ReadingLemmas.{one_reading}
use Rattle.le_english.proofs.laws.one_reading.Goals as goal

pub returns : goal.returns
returns c = one_reading
