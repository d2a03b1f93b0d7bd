use Rattle.std.proofs.Common.{◌∙◌}
use Rattle.std.proofs.lemmas.List.{get_or_default}
use Rattle.le_derivations.proofs.Noting.{noted-sym}
use Rattle.le_derivations.proofs.numbering.note_syms.Goals as goal

pub loop-sym-preserved : goal.loop-sym-preserved
loop-sym-preserved c =
    noted-sym c.args.width c.args.scope c.args.syms.now c.loop-sym.sym-index _ c.loop-sym.keys.keys c.note_sym.new.keys.keys c.loop-sym-test.true
    (get_or_default c.args.syms.now c.loop-sym.sym-index _ _ c.loop-sym-test.true) c.in_ok-note_sym.ensures
    ∙ c.loop-sym.invariant
