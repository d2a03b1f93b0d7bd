use Rattle.le_match.proofs.ReadTerms.{terms-are-read, atoms-are-read}
use Rattle.le_match.proofs.laws.read_can_be_said.Goals as goal

pub returns : goal.returns
returns c = record { terms = terms-are-read; atoms = atoms-are-read }
