use Rattle.le_english.proofs.ProofLines.{explains}
use Rattle.le_english.proofs.proof_laws.explains_proofs.Goals as goal

pub returns : goal.returns
returns c = explains
