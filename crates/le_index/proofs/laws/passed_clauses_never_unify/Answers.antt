use Rattle.le_index.proofs.KeyLaw.{passed-clauses}
use Rattle.le_index.proofs.laws.passed_clauses_never_unify.Goals as goal

pub returns : goal.returns
returns c = passed-clauses
