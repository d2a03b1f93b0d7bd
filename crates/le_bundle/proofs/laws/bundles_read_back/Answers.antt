use Rattle.le_bundle.proofs.WrittenLemmas.{reads_back}
use Rattle.le_bundle.proofs.laws.bundles_read_back.Goals as goal

pub returns : goal.returns
returns c = λ b is. reads_back b is
