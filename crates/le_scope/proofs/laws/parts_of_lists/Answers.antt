use Rattle.le_scope.proofs.PartLemmas.{tree_parts}
use Rattle.le_scope.proofs.laws.parts_of_lists.Goals as goal

pub returns : goal.returns
returns c layout tokens p h k e = tree_parts layout tokens p h k e
