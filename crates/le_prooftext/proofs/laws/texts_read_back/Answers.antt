use Rattle.le_prooftext.proofs.TextLemmas.{derivation_of-text}
use Rattle.le_prooftext.proofs.laws.texts_read_back.Goals as goal

pub returns : goal.returns
returns c = λ derivation rest h. derivation_of-text derivation rest h
