use Rattle.le_match.proofs.ListTerms.{phrase_is_tree}
use Rattle.le_match.proofs.laws.every_term.Goals as goal

pub returns : goal.returns
returns c = phrase_is_tree
