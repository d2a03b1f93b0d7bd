use Rattle.le_templates.proofs.FormLemmas.{begin_short}
use Rattle.le_templates.proofs.form.begins_with.Goals as goal

pub returns-then-parts-i : goal.returns-then-parts-i
returns-then-parts-i c = begin_short c.args.parts.now c.args.words.now c.loop-i.i c.if-parts-i.true c.loop-i-test.true c.loop-i.invariant
