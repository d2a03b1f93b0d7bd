use Rattle.le_proofs.proofs.Growing.{tree-grows}
use Rattle.le_proofs.proofs.laws.tree_unfolds.Goals as goal

pub returns : goal.returns
returns c = tree-grows
