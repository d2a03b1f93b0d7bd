use Rattle.le_english.proofs.AtomLemmas.{atom-back}
use Rattle.le_english.proofs.laws.atom_reads_back.Goals as goal

pub returns : goal.returns
returns c = atom-back
