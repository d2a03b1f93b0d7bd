use Rattle.std.proofs.Common.{sym, ◌∙◌, arith}
use Rattle.le_conds.proofs.StackLemmas.{stops_here, goes_on, all_belong}
use Rattle.le_conds.proofs.blocks.count_inside.Goals as goal

pub returns-then-not-belongs-clause-exact : goal.returns-then-not-belongs-clause-exact
returns-then-not-belongs-clause-exact c = λ ms same.
    stops_here c.args.column ms c.args.waiting.now c.loop-k.k _ same c.loop-k-test.true (sym c.if-not-belongs.true ∙ c.belongs.ensures) (c.loop-k.invariant.all ms same)

pub loop-k-preserved : goal.loop-k-preserved
loop-k-preserved c = record {
  high = omega arith;
  all = λ ms same. goes_on c.args.column ms c.args.waiting.now c.loop-k.k _ same c.loop-k-test.true (sym c.if-not-belongs.false ∙ c.belongs.ensures) (c.loop-k.invariant.all ms same);
}

pub returns-clause-exact : goal.returns-clause-exact
returns-clause-exact c = λ ms same. all_belong c.args.column ms c.args.waiting.now c.loop-k.k same (omega arith) (c.loop-k.invariant.all ms same) c.loop-k.invariant.high
