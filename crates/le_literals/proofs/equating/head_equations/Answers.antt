use Rattle.le_literals.specs.declared.changing.Change.TheVariants.{Raise}
use Rattle.le_literals.proofs.Items.{tree-at}
use Rattle.le_literals.proofs.equating.head_equations.Goals as goal

pub raised_term-requires : goal.raised_term-requires
raised_term-requires c = tree-at (Raise c.args.next) c.args.head.now c.loop-place.place c.index-head-place.result c.loop-place-test.true c.index-head-place.is c.requires
