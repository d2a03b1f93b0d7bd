use Rattle.le_conds.proofs.ItemLemmas.{whole, cut}
use Rattle.le_conds.proofs.laws.nothing_lost.Goals as goal

pub returns-clause-whole : goal.returns-clause-whole
returns-clause-whole c = whole

pub returns-clause-cut : goal.returns-clause-cut
returns-clause-cut c = cut
