use Rattle.le_proofs.proofs.SameLeaves.{admitted-at-leaf}
use Rattle.le_proofs.proofs.laws.admitted_at_leaf.Goals as goal

pub returns : goal.returns
returns c = admitted-at-leaf
