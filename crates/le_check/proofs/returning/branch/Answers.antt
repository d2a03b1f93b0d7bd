use Rattle.std.proofs.Common.{◌≡◌, ◌++◌, [], ◌∷◌, drop, Some, rules, refl, sym, ◌∙◌}
use Rattle.le_proofs.specs.declared.node.Node.TheVariants as node
use Rattle.le_proofs.specs.Goals.{head_solution}
use Rattle.le_check.specs.declared.levels.Frame.TheVariants.{Split}
use Rattle.le_check.specs.Goals.{goal_of}
use Rattle.le_check.proofs.Resuming.{walks-on, any-literal}
use Rattle.le_check.proofs.Branching.{branch-goes}
use Rattle.le_check.proofs.returning.branch.Goals as goal

pub returns-clause-means : goal.returns-clause-means
returns-clause-means g c = λ nodes frames order whole next.
    let program = c.args.program.now in
    let frame = c.args.frame in
    let solves : head_solution c.args.frame.walk.goal.next c.in-Some.it.now c.args.frame.atom ≡ Some c.in-Some-2.unifier = sym c.in_ok-unifier.ensures.exact ∙ c.in-Some-2.is in
    let due : c.args.clause ≡ c.args.due = search rules in
    walks-on program nodes (Split frame ∷ frames) order whole frame.walk.fuel frame.walk.failed (goal_of c.in_ok-goal.goal) (goal_of c.in_ok-goal.goal) (drop c.args.at nodes) (c.args.grown.nodes.items ++ node.Branch c.args.clause ∷ []) c.push.new.self.items c.args.grown.found.items c.args.grown.found.items c.in_ok-push.ensures.items refl refl
    (branch-goes program nodes frames c.args.grown.nodes.items c.args.grown.found.items order whole frame c.args.number (drop c.args.at nodes) c.args.clause c.args.due c.in-Some.it.now c.in-Some-2.unifier any-literal (goal_of c.in_ok-goal.goal)
    c.in-Some.ensures.some.0 solves due (c.in_ok-goal.ensures any-literal) next)
