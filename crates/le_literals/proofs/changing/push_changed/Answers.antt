use Rattle.le_literals.proofs.Items.{literal-at}
use Rattle.le_literals.proofs.changing.push_changed.Goals as goal

pub changed_literal-requires : goal.changed_literal-requires
changed_literal-requires c = literal-at c.args.change.now c.args.literals.now c.loop-literal.literal-index c.literal-item.result c.loop-literal-test.true c.literal-item.is c.requires
