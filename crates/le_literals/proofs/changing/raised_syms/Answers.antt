use Rattle.std.proofs.lemmas.List.{get_or_default}
use Rattle.le_literals.proofs.Items.{symbol-at}
use Rattle.le_literals.proofs.changing.raised_syms.Goals as goal

pub raised_sym-requires : goal.raised_sym-requires
raised_sym-requires c = symbol-at c.args.next c.args.syms.now c.loop-sym.sym-index _ c.loop-sym-test.true (get_or_default c.args.syms.now c.loop-sym.sym-index _ _ c.loop-sym-test.true) c.requires
