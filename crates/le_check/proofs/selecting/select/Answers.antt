use Rattle.std.proofs.Common.{sym, ◌∙◌, arith}
use Rattle.le_check.proofs.Choosing.{passed-more, chosen-there, chosen-first, some-there}
use Rattle.le_check.proofs.selecting.select.Goals as goal

pub returns-then-not-is_delayed-clause-place : goal.returns-then-not-is_delayed-clause-place
returns-then-not-is_delayed-clause-place c = chosen-there c.args.version c.args.literals.now c.loop-place.place c.index-literals-place.result c.loop-place-test.true c.index-literals-place.is (sym c.is_delayed.ensures ∙ c.if-not-is_delayed.true) c.loop-place.invariant

pub loop-place-preserved : goal.loop-place-preserved
loop-place-preserved c = passed-more c.args.version c.args.literals.now c.loop-place.place c.index-literals-place.result c.loop-place-test.true c.index-literals-place.is (sym c.is_delayed.ensures ∙ c.if-not-is_delayed.false) c.loop-place.invariant

pub returns-clause-place : goal.returns-clause-place
returns-clause-place c = chosen-first c.args.version c.args.literals.now c.loop-place.place (some-there c.args.literals.now c.is_empty.result c.is_empty.ensures c.if-is_empty.false) (omega (arith, c.loop-place-test.false)) c.loop-place.invariant
