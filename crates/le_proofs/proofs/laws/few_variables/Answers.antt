use Rattle.le_proofs.proofs.FewVariables.{few-variables}
use Rattle.le_proofs.proofs.laws.few_variables.Goals as goal

pub returns : goal.returns
returns c = few-variables
