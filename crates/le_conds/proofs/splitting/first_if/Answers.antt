use Rattle.std.proofs.Common.{true, false, sym, ◌∙◌, arith}
use Rattle.le_conds.proofs.IfLemmas.{if_step}
use Rattle.le_conds.proofs.splitting.first_if.Goals as goal

pub returns-then-has_word-clause-exact : goal.returns-then-has_word-clause-exact
returns-then-has_word-clause-exact c =
    sym (if_step c.args.layout.now c.loop-k.k c.args.sentence.to true c.loop-k-test.true c.requires.inside (sym c.has_word.ensures ∙ c.if-has_word.true)) ∙ c.loop-k.invariant.same

pub loop-k-preserved : goal.loop-k-preserved
loop-k-preserved c = record {
  low = omega arith;
  high = omega arith;
  same = sym (if_step c.args.layout.now c.loop-k.k c.args.sentence.to false c.loop-k-test.true c.requires.inside (sym c.has_word.ensures ∙ c.if-has_word.false)) ∙ c.loop-k.invariant.same;
}
