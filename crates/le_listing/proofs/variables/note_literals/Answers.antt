use Rattle.le_listing.proofs.NoteSteps.{literal_step}
use Rattle.le_listing.proofs.variables.note_literals.Goals as goal

pub loop-literal-preserved : goal.loop-literal-preserved
loop-literal-preserved c =
    literal_step c.args.literals.now c.loop-literal.literal-index c.literal-item.result c.loop-literal.set.keys c.note_form.new.set.keys _ c.loop-literal-test.true c.literal-item.is c.in_ok-note_form.ensures c.loop-literal.invariant
