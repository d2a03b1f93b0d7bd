use Rattle.le_literals.proofs.Items.{body-vars}
use Rattle.le_check.proofs.resolving.resolvent.Goals as goal

pub push_changed-requires : goal.push_changed-requires
push_changed-requires c = rw c.as_slice-2.ensures (body-vars c.args.goal.now.next c.args.clause.now c.requires.clause c.requires.fits)
