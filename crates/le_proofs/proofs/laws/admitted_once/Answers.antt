use Rattle.le_proofs.proofs.Admitted.{admitted-once}
use Rattle.le_proofs.proofs.laws.admitted_once.Goals as goal

pub returns : goal.returns
returns c = admitted-once
