use Rattle.le_layout.proofs.LeastLemmas.{least_fault_lem, no_fault_lem}
use Rattle.le_layout.proofs.laws.least_fault.Goals as goal

pub returns-clause-least : goal.returns-clause-least
returns-clause-least c = least_fault_lem

pub returns-clause-none : goal.returns-clause-none
returns-clause-none c = no_fault_lem
