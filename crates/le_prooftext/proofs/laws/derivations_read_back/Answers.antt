use Rattle.le_prooftext.proofs.TextLemmas.{derivation_of-begins, begins-derivation_of}
use Rattle.le_prooftext.proofs.laws.derivations_read_back.Goals as goal

pub returns : goal.returns
returns c = λ bytes read. (λ is. derivation_of-begins bytes read is, λ found. begins-derivation_of bytes read found)
