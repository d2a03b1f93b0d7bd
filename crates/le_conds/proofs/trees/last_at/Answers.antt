use Rattle.le_conds.proofs.StepLemmas.{last_node, no_node}
use Rattle.le_conds.proofs.trees.last_at.Goals as goal

pub returns-then-count-eq0 : goal.returns-then-count-eq0
returns-then-count-eq0 c = λ m rest same. no_node m rest c.args.nodes.now same c.if-count-eq0.true

pub returns-else-count-eq0 : goal.returns-else-count-eq0
returns-else-count-eq0 c = λ m rest same. last_node m rest c.args.nodes.now _ same
