use Rattle.le_english.proofs.BackLemmas.{reads-back}
use Rattle.le_english.proofs.laws.reads_back.Goals as goal

pub returns : goal.returns
returns c = reads-back
