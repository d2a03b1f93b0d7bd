use Rattle.std.proofs.Common.{[], Some, sym, subst, reverse}
use Rattle.le_machine.specs.declared.phase.Phase.{Phase}
use Rattle.le_machine.specs.declared.phase.Phase.TheVariants.{Fresh}
use Rattle.le_machine.specs.Keeping.{goal_of, IsUnderWay}
use Rattle.le_machine.specs.State.{Stands}
use Rattle.le_machine.proofs.Turning.{ok-all}
use Rattle.le_machine.proofs.UnderWay.{main-begins}
use Rattle.le_machine.proofs.machine.advance.Goals as goal

pub returns-in_ok-goal-in-Fresh-clause-found : goal.returns-in_ok-goal-in-Fresh-clause-found
returns-in_ok-goal-in-Fresh-clause-found c =
    ok-all _ _
    (λ found comes budget given terms small stands.
    let s = c.args.searches.now in
    let at : Stands Fresh c.args.program.now budget given c.args.left.now s terms = subst (λ (phase : Phase). Stands phase c.args.program.now budget given c.args.left.now s terms) c.in-Fresh.is stands in
    comes budget given
    (subst (λ ws. IsUnderWay c.args.program.now budget given (reverse ws) s.inner (Some (goal_of c.in_ok-goal-in-Fresh.goal)) c.args.left.now) (sym at.2.0)
    (subst (λ k. IsUnderWay c.args.program.now budget k [] s.inner (Some (goal_of c.in_ok-goal-in-Fresh.goal)) c.args.left.now) (sym at.0)
    (subst (λ n. IsUnderWay c.args.program.now budget 0 [] s.inner (Some (goal_of c.in_ok-goal-in-Fresh.goal)) n) (sym at.1)
    (main-begins c.args.program.now budget s.inner (goal_of c.in_ok-goal-in-Fresh.goal) c.in_ok-goal-in-Fresh.ensures at.2.3 at.2.2 at.2.1))))) c.find.result c.find.ensures.found
