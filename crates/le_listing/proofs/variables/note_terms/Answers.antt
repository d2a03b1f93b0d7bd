use Rattle.le_listing.proofs.NoteSteps.{term_step}
use Rattle.le_listing.proofs.variables.note_terms.Goals as goal

pub loop-term-preserved : goal.loop-term-preserved
loop-term-preserved c =
    term_step c.args.terms.now c.loop-term.term-index c.term-item.result c.loop-term.set.keys c.note_term.new.set.keys _ c.loop-term-test.true c.term-item.is c.in_ok-note_term.ensures c.loop-term.invariant
