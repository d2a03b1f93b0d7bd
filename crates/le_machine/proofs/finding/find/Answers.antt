use Rattle.std.proofs.Common.{subst, le_trans}
use Rattle.le_machine.specs.declared.goals.Settled.{Settled}
use Rattle.le_machine.specs.declared.goals.Turn.{Turn}
use Rattle.le_machine.specs.Turns.{Comes, SettledComes}
use Rattle.le_machine.proofs.finding.find.Goals as goal

pub returns-in-Found-2-clause-found : goal.returns-in-Found-2-clause-found
returns-in-Found-2-clause-found c = λ budget given h.
    subst (λ (t : Turn). Comes c.args.program.now budget given c.visit.new.searches t c.visit.new.left) c.in-Found-2.is
    (c.in_ok-next-in-Goal.ensures.comes budget given
    (subst (λ (s : Settled). SettledComes c.args.program.now budget given c.settle.new.searches s c.loop-goal.left) c.in-Goal.is (c.in_ok-goal.ensures.comes budget given (c.loop-goal.invariant.comes budget given h))))

pub loop-goal-preserved : goal.loop-goal-preserved
loop-goal-preserved c = record {
  comes = λ budget given h.
      c.in_ok-next-in-Goal.ensures.comes budget given
      (subst (λ (s : Settled). SettledComes c.args.program.now budget given c.settle.new.searches s c.loop-goal.left) c.in-Goal.is (c.in_ok-goal.ensures.comes budget given (c.loop-goal.invariant.comes budget given h)));
  ready = c.in_ok-next-in-Goal.ensures.ready;
  opens = c.in_ok-next-in-Goal.ensures.opens;
  fewer = le_trans c.in_ok-next-in-Goal.ensures.fewer c.loop-goal.invariant.fewer;
}

pub returns-in-Found-clause-found : goal.returns-in-Found-clause-found
returns-in-Found-clause-found c = λ budget given h. subst (λ (s : Settled). SettledComes c.args.program.now budget given c.settle.new.searches s c.loop-goal.left) c.in-Found.is (c.in_ok-goal.ensures.comes budget given (c.loop-goal.invariant.comes budget given h))
