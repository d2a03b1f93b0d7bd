use Rattle.le_check.proofs.SameNodes.{same-atom-is}
use Rattle.le_check.proofs.comparing.same_atom.Goals as goal

pub returns : goal.returns
returns c = same-atom-is c.args.a.now c.args.b.now c.equals.result c.equals.ensures
