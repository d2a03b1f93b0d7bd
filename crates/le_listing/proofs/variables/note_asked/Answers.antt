use Rattle.std.proofs.Common.{rules, ◌≡◌}
use Rattle.le_terms.specs.Walks.{noted}
use Rattle.le_listing.proofs.NoteSteps.{asked_step}
use Rattle.le_listing.proofs.variables.note_asked.Goals as goal

pub loop-one-preserved : goal.loop-one-preserved
loop-one-preserved c =
    let added : c.insert.new.self.keys ≡ noted c.loop-one.set.keys c.one-item.result.var = search rules in
    asked_step c.args.asked.now c.loop-one.one-index c.one-item.result c.loop-one.set.keys c.insert.new.self.keys _ c.loop-one-test.true c.one-item.is added c.loop-one.invariant
