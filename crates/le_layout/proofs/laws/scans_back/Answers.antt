use Rattle.le_layout.proofs.JoinLemmas.{scans_back_lem}
use Rattle.le_layout.proofs.laws.scans_back.Goals as goal

pub returns : goal.returns
returns c = scans_back_lem
