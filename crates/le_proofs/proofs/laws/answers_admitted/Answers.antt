use Rattle.le_proofs.proofs.Printed.{printed-admitted}
use Rattle.le_proofs.proofs.laws.answers_admitted.Goals as goal

pub returns : goal.returns
returns c = printed-admitted
