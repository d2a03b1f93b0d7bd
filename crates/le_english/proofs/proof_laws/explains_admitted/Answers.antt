use Rattle.le_english.proofs.AdmittedLines.{admitted-lines}
use Rattle.le_english.proofs.proof_laws.explains_admitted.Goals as goal

pub returns : goal.returns
returns c = admitted-lines
