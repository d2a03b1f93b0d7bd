use Rattle.std.proofs.Common.{◌≡◌, ℕ, Some, sym, subst, ap, ◌∙◌, le_trans}
use Rattle.le_terms.specs.declared.program.Program.{Program}
use Rattle.le_cells.specs.declared.goals.Settled.{Settled}
use Rattle.le_cells.specs.declared.goals.Turn.{Turn}
use Rattle.le_cells.specs.Keeping.{goal_now}
use Rattle.le_cells.specs.Turns.{AreUnderWay, Comes, SettledComes}
use Rattle.le_cells.proofs.finding.find.Goals as goal

-- what holds of one program holds of the same one
carried : (p q : Program) → p ≡ q → (P Q : Program → Type 0) → (P p → Q p) → P q → Q q
carried p q same P Q give h = subst Q same (give (subst P (sym same) h))

pub returns-in-Found-2-clause-found : goal.returns-in-Found-2-clause-found
returns-in-Found-2-clause-found c = λ budget given h.
    let cells = c.settle.new.goals in
    let p = c.args.program.now in
    subst (λ (t : Turn). Comes p budget given c.visit.new.goals c.visit.new.searches t c.visit.new.left) c.in-Found-2.is
    (carried cells.program p (c.in_ok-goal.ensures.same ∙ c.loop-goal.invariant.same) (λ q. AreUnderWay q budget given cells c.settle.new.searches (Some (goal_now cells c.in-Goal.goal)) c.loop-goal.left)
    (λ q. Comes q budget given c.visit.new.goals c.visit.new.searches c.in_ok-next-in-Goal.next c.visit.new.left) (c.in_ok-next-in-Goal.ensures.comes budget given)
    (subst (λ (s : Settled). SettledComes p budget given cells c.settle.new.searches s c.loop-goal.left) c.in-Goal.is (c.in_ok-goal.ensures.comes budget given (c.loop-goal.invariant.comes budget given h))))

pub loop-goal-preserved : goal.loop-goal-preserved
loop-goal-preserved c =
    let cells = c.settle.new.goals in
    let p = c.args.program.now in
    record {
      comes = λ budget given h.
          carried cells.program p (c.in_ok-goal.ensures.same ∙ c.loop-goal.invariant.same) (λ q. AreUnderWay q budget given cells c.settle.new.searches (Some (goal_now cells c.in-Goal.goal)) c.loop-goal.left)
          (λ q. Comes q budget given c.visit.new.goals c.visit.new.searches c.in_ok-next-in-Goal.next c.visit.new.left) (c.in_ok-next-in-Goal.ensures.comes budget given)
          (subst (λ (s : Settled). SettledComes p budget given cells c.settle.new.searches s c.loop-goal.left) c.in-Goal.is (c.in_ok-goal.ensures.comes budget given (c.loop-goal.invariant.comes budget given h)));
      ready = c.in_ok-next-in-Goal.ensures.ready;
      opens = c.in_ok-next-in-Goal.ensures.opens;
      fewer = le_trans c.in_ok-next-in-Goal.ensures.fewer c.loop-goal.invariant.fewer;
      same = c.in_ok-next-in-Goal.ensures.program ∙ (c.in_ok-goal.ensures.same ∙ c.loop-goal.invariant.same);
    }

pub returns-in-Found-clause-found : goal.returns-in-Found-clause-found
returns-in-Found-clause-found c = λ budget given h. subst (λ (s : Settled). SettledComes c.args.program.now budget given c.settle.new.goals c.settle.new.searches s c.loop-goal.left) c.in-Found.is (c.in_ok-goal.ensures.comes budget given (c.loop-goal.invariant.comes budget given h))
