use Rattle.le_conds.proofs.SoundLemmas.{least_none}
use Rattle.le_conds.proofs.LeastLemmas.{least_law}
use Rattle.le_conds.proofs.laws.least_decides.Goals as goal

pub returns-clause-none : goal.returns-clause-none
returns-clause-none c = least_none

pub returns-clause-least : goal.returns-clause-least
returns-clause-least c = least_law
