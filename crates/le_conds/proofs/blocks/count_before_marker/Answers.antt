use Rattle.std.proofs.Common.{sym, ◌∙◌, arith}
use Rattle.le_conds.proofs.StackLemmas.{stops_before, goes_before, all_before}
use Rattle.le_conds.proofs.blocks.count_before_marker.Goals as goal

pub returns-then-is_marker-clause-exact : goal.returns-then-is_marker-clause-exact
returns-then-is_marker-clause-exact c = λ ms same.
    stops_before ms c.args.waiting.now c.loop-k.k _ same c.loop-k-test.true (sym c.if-is_marker.true ∙ c.is_marker.ensures) (c.loop-k.invariant.all ms same)

pub loop-k-preserved : goal.loop-k-preserved
loop-k-preserved c = record {
  high = omega arith;
  all = λ ms same. goes_before ms c.args.waiting.now c.loop-k.k _ same c.loop-k-test.true (sym c.if-is_marker.false ∙ c.is_marker.ensures) (c.loop-k.invariant.all ms same);
}

pub returns-clause-exact : goal.returns-clause-exact
returns-clause-exact c = λ ms same. all_before ms c.args.waiting.now c.loop-k.k same (omega arith) (c.loop-k.invariant.all ms same) c.loop-k.invariant.high
