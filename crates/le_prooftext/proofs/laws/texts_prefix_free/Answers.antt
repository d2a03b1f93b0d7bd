use Rattle.le_prooftext.proofs.TextLemmas.{prefix_free}
use Rattle.le_prooftext.proofs.laws.texts_prefix_free.Goals as goal

pub returns : goal.returns
returns c = prefix_free
