use Rattle.std.proofs.Common.{suc, arith}
use Rattle.le_proofs.specs.Goals.{root_of}
use Rattle.le_proofs.specs.Search.{tree}
use Rattle.le_proofs.proofs.Ends.{within-ends}
use Rattle.le_proofs.proofs.laws.searches_end.Goals as goal

pub returns : goal.returns
unfolding tree
returns c = λ program budget. within-ends program (suc budget) (root_of program) budget (omega arith)
