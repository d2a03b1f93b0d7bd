use Rattle.std.proofs.Common.{arith}
use Rattle.le_conds.specs.Faults.{member_faults}
use Rattle.le_conds.proofs.StackLemmas.{fold_none, fold_step, fold_all}
use Rattle.le_conds.proofs.shape.members_fault.Goals as goal

pub loop-k-init : goal.loop-k-init
loop-k-init c = record {
  high = omega arith;
  found = λ ms same. fold_none (member_faults c.args.level c.args.lead) ms c.args.least;
}

pub loop-k-preserved : goal.loop-k-preserved
loop-k-preserved c = record {
  high = omega arith;
  found = λ ms same. fold_step (member_faults c.args.level c.args.lead) ms c.args.members.now c.loop-k.k _ c.args.least c.loop-k.found _ same c.loop-k-test.true (c.loop-k.invariant.found ms same) c.member_fault-found.ensures;
}

pub returns : goal.returns
returns c = λ ms same. fold_all (member_faults c.args.level c.args.lead) ms c.args.members.now c.loop-k.k c.args.least c.loop-k.found same (omega arith) (c.loop-k.invariant.found ms same)
