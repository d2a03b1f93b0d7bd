use Rattle.std.proofs.Common.{arith}
use Rattle.le_check.proofs.Passing.{place-more, inside-more, no-place}
use Rattle.le_check.proofs.parts.beginnings.Goals as goal

pub loop-done-preserved : goal.loop-done-preserved
loop-done-preserved c = record {
  all = place-more c.args.nodes.now c.args.count c.loop-done.done c.loop-done.at c.end_at-at.result c.loop-done.places.items c.push.new.self.items _ c.loop-done-test.true c.in_ok-push.ensures.items c.end_at-at.ensures.rest c.loop-done.invariant.all;
  at = c.end_at-at.ensures.inside;
  inside = inside-more c.args.nodes.now c.loop-done.at c.loop-done.places.items c.push.new.self.items c.in_ok-push.ensures.items c.loop-done.invariant.at c.loop-done.invariant.inside;
}

pub returns-clause-places : goal.returns-clause-places
returns-clause-places c = no-place c.args.nodes.now c.args.count c.loop-done.done c.loop-done.at c.loop-done.places.items _ (omega (arith, c.loop-done-test.false)) c.loop-done.invariant.all
