use Rattle.std.proofs.Common.{◌≡◌, length, rules, refl, subst}
use Rattle.std.proofs.lemmas.List.{nil_from_length}
use Rattle.le_machine.specs.declared.goals.Turn.{Turn}
use Rattle.le_machine.specs.Keeping.{goal_of}
use Rattle.le_machine.specs.Turns.{Comes}
use Rattle.le_machine.proofs.finding.settle.Goals as goal

pub returns-in-Found-clause-comes : goal.returns-in-Found-clause-comes
returns-in-Found-clause-comes c = λ budget given h. subst (λ (t : Turn). Comes c.args.program.now budget given c.loop-turn.searches t c.args.left) c.in-Found.is (c.loop-turn.invariant.comes budget given h)

pub returns-then-not-is_empty-clause-comes : goal.returns-then-not-is_empty-clause-comes
returns-then-not-is_empty-clause-comes c = λ budget given h. subst (λ (t : Turn). Comes c.args.program.now budget given c.loop-turn.searches t c.args.left) c.in-Visit.is (c.loop-turn.invariant.comes budget given h)

pub loop-turn-preserved-in_ok-turn-in-Back : goal.loop-turn-preserved-in_ok-turn-in-Back
loop-turn-preserved-in_ok-turn-in-Back c = record {
  comes = λ budget given h. c.in_ok-turn-in-Back.ensures.comes budget given (subst (λ (t : Turn). Comes c.args.program.now budget given c.loop-turn.searches t c.args.left) c.in-Back.is (c.loop-turn.invariant.comes budget given h));
  ready = c.in_ok-turn-in-Back.ensures.ready;
  opens = c.in_ok-turn-in-Back.ensures.opens;
}

pub loop-turn-preserved : goal.loop-turn-preserved
loop-turn-preserved c =
    let none : length c.in-Visit.goal.literals.items ≡ 0 = search rules in
    record {
      comes = λ budget given h.
          c.in_ok-turn-in-Visit.ensures.comes c.args.program.now budget given c.args.left (goal_of c.in-Visit.goal) (nil_from_length c.in-Visit.goal.literals.items none) refl
          (subst (λ (t : Turn). Comes c.args.program.now budget given c.loop-turn.searches t c.args.left) c.in-Visit.is (c.loop-turn.invariant.comes budget given h));
      ready = c.in_ok-turn-in-Visit.ensures.ready c.args.left;
      opens = c.in_ok-turn-in-Visit.ensures.opens c.args.left c.loop-turn.invariant.opens;
    }
