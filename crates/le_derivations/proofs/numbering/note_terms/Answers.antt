use Rattle.std.proofs.Common.{◌∙◌}
use Rattle.le_derivations.proofs.Noting.{noted-term}
use Rattle.le_derivations.proofs.numbering.note_terms.Goals as goal

pub loop-term-preserved : goal.loop-term-preserved
loop-term-preserved c =
    noted-term c.args.width c.args.scope c.args.terms.now c.loop-term.term-index c.term-item.result c.loop-term.keys.keys c.note_term.new.keys.keys c.loop-term-test.true c.term-item.is c.in_ok-note_term.ensures ∙ c.loop-term.invariant
