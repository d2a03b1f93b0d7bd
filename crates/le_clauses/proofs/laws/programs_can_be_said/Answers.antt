use Rattle.le_clauses.proofs.Sayable.{sayable}
use Rattle.le_clauses.proofs.laws.programs_can_be_said.Goals as goal

pub returns : goal.returns
returns c = sayable
