use Rattle.le_gather.proofs.Meaning.{folds-mean}
use Rattle.le_gather.proofs.laws.folds_mean.Goals as goal

pub returns : goal.returns
returns c = folds-mean
