use Rattle.le_conds.proofs.StepLemmas.{takes_marker, takes_none}
use Rattle.le_conds.proofs.blocks.count_marker.Goals as goal

pub returns-in-ForAll-clause-exact : goal.returns-in-ForAll-clause-exact
returns-in-ForAll-clause-exact c = λ ms same counted. takes_marker c.args.entry.opens c.args.entry ms c.args.waiting.now c.args.count c.in-ForAll.is same counted c.if-count-waiting.true

pub returns-in_default-clause-exact : goal.returns-in_default-clause-exact
returns-in_default-clause-exact c = λ ms same counted. takes_none c.args.entry.opens c.args.entry ms c.args.waiting.now c.args.count c.in-ForAll.is same counted c.if-count-waiting.false
