use Rattle.le_literals.proofs.Items.{tree-at}
use Rattle.le_literals.proofs.changing.changed_terms.Goals as goal

pub changed_term-requires : goal.changed_term-requires
changed_term-requires c = tree-at c.args.change.now c.args.terms.now c.loop-term.term-index c.term-item.result c.loop-term-test.true c.term-item.is c.requires
