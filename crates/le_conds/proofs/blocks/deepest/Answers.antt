use Rattle.std.proofs.Common.{arith}
use Rattle.le_conds.proofs.StackLemmas.{deepest_step, deepest_all, deepest_none}
use Rattle.le_conds.proofs.blocks.deepest.Goals as goal

pub loop-member-init : goal.loop-member-init
loop-member-init c = record {
  high = omega arith;
  found = λ ms same. deepest_none ms;
}

pub loop-member-preserved : goal.loop-member-preserved
loop-member-preserved c = record {
  high = omega arith;
  found = λ ms same. deepest_step ms c.args.members.now c.loop-member.member-index _ c.loop-member.deepest _ same c.loop-member-test.true (c.loop-member.invariant.found ms same) c.greater-deepest.ensures;
}

pub returns : goal.returns
returns c = λ ms same. deepest_all ms c.args.members.now c.loop-member.member-index c.loop-member.deepest same c.loop-member-test.false (c.loop-member.invariant.found ms same)
