use Rattle.le_docs.proofs.FaultLemmas.{reported}
use Rattle.le_docs.proofs.laws.first_fault.Goals as goal

pub returns : goal.returns
returns c = reported
