use Rattle.le_proofs.proofs.SameLeaves.{done-has-all}
use Rattle.le_proofs.proofs.laws.done_has_all.Goals as goal

pub returns : goal.returns
returns c = done-has-all
