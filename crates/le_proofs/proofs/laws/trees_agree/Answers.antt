use Rattle.le_proofs.proofs.SameLeaves.{trees-agree}
use Rattle.le_proofs.proofs.laws.trees_agree.Goals as goal

pub returns : goal.returns
returns c = trees-agree
