use Rattle.le_literals.proofs.Items.{head-vars}
use Rattle.le_check.proofs.resolving.unify_head.Goals as goal

pub head_equations-requires : goal.head_equations-requires
head_equations-requires g c = rw c.as_slice.ensures (head-vars c.args.next c.args.clause.now c.requires.clause c.requires.fits)
