use Rattle.le_clauses.proofs.Documents.{documents_valid}
use Rattle.le_clauses.proofs.laws.documents_are_valid.Goals as goal

pub returns : goal.returns
returns c = documents_valid
