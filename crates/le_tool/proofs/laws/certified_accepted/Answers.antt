use Rattle.le_tool.proofs.CertifiedLemmas.{certified_accepted}
use Rattle.le_tool.proofs.laws.certified_accepted.Goals as goal

pub returns : goal.returns
returns c = λ words bytes task whole program job command is. certified_accepted words bytes task whole program job command is
