use Rattle.std.proofs.Common.{◌≡◌, ◌∙◌, map}
use Rattle.std.proofs.lemmas.Result.{IfOk-weaker}
use Rattle.le_goals.specs.Shown.{Snapshot}
use Rattle.le_paths.specs.Paths.{step_now}
use Rattle.le_paths.proofs.Leaves.{proof-along}
use Rattle.le_paths.proofs.leading.proof_along.Goals as goal

pub returns : goal.returns
returns c =
    let now : Snapshot = c.args.goals.now.now in
    let read : c.deref.result.now ≡ map (step_now now) c.args.path.now = c.deref.ensures.value ∙ c.in_ok-steps.ensures in
    IfOk-weaker c.proof_of.result _ _ (λ found proved. proof-along now c.args.path.now c.deref.result.now read found.items proved) c.proof_of.ensures
