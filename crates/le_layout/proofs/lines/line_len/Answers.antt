use Rattle.std.proofs.Common.{arith}
use Rattle.le_layout.proofs.WalkLemmas.{line_none, line_further, line_ends}
use Rattle.le_layout.proofs.lines.line_len.Goals as goal

pub returns-then-rest-len-eq10-clause-value : goal.returns-then-rest-len-eq10-clause-value
returns-then-rest-len-eq10-clause-value c =
    omega (arith, c.loop-len.invariant.counted, line_ends c.args.rest.now c.loop-len.len c.index-rest-len.result c.loop-len-test.true c.index-rest-len.is c.if-rest-len-eq10.true)

pub loop-len-preserved : goal.loop-len-preserved
loop-len-preserved c = record {
  inside = omega arith;
  counted = omega (arith, c.loop-len.invariant.counted, line_further c.args.rest.now c.loop-len.len c.index-rest-len.result c.loop-len-test.true c.index-rest-len.is c.if-rest-len-eq10.false);
}

pub returns-clause-value : goal.returns-clause-value
returns-clause-value c = omega (arith, c.loop-len.invariant.counted, c.loop-len.invariant.inside, line_none c.args.rest.now c.loop-len.len c.loop-len-test.false)
