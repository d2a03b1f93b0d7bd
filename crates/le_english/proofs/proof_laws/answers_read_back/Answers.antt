use Rattle.le_english.proofs.SaidNodes.{answers-back}
use Rattle.le_english.proofs.proof_laws.answers_read_back.Goals as goal

pub returns : goal.returns
returns c = answers-back
