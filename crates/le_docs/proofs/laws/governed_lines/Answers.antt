use Rattle.le_docs.proofs.GovernLemmas.{sections_are}
use Rattle.le_docs.proofs.laws.governed_lines.Goals as goal

pub returns : goal.returns
returns c = sections_are
