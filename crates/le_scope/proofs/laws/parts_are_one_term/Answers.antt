use Rattle.le_scope.proofs.PartLemmas.{list_parts_term}
use Rattle.le_scope.proofs.laws.parts_are_one_term.Goals as goal

pub returns : goal.returns
returns c layout tokens h = list_parts_term layout tokens h
