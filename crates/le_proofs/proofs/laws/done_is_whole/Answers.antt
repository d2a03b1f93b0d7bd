use Rattle.le_proofs.proofs.Answers.{search-whole}
use Rattle.le_proofs.proofs.laws.done_is_whole.Goals as goal

pub returns : goal.returns
returns c = search-whole
