use Rattle.std.proofs.Common.{◌≡◌, ◌∙◌, List, map}
use Rattle.std.proofs.lemmas.Result.{IfOk-weaker}
use Rattle.le_terms.specs.Tree.{Tree}
use Rattle.le_goals.specs.Shown.{Snapshot, goal_at}
use Rattle.le_paths.specs.Paths.{step_now}
use Rattle.le_paths.proofs.Leaves.{certificate-along}
use Rattle.le_paths.proofs.leading.derivation_along.Goals as goal

pub returns : goal.returns
returns c =
    let now : Snapshot = c.args.goals.now.now in
    let read : c.deref.result.now ≡ map (step_now now) c.args.path.now = c.deref.ensures.value ∙ c.in_ok-steps.ensures in
    let own : List Tree = (goal_at now c.args.goal).terms in
    let same : c.deref-2.result.now ≡ own = c.deref-2.ensures.value ∙ c.in_ok-terms.ensures in
    IfOk-weaker c.derivation_of.result _ _ (λ found certified. certificate-along now c.args.path.now c.deref.result.now read found.nodes c.deref-2.result.now own same certified) c.derivation_of.ensures
