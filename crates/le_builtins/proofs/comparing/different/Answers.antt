use Rattle.std.proofs.Common.{◌≡◌, ◌∙◌, ap, not}
use Rattle.le_builtins.specs.Compute.{is_same, truth, settled}
use Rattle.le_builtins.proofs.SameTerms.{is_same-is, answered-ground}
use Rattle.le_builtins.proofs.comparing.different.Goals as goal

pub returns-clause-answer : goal.returns-clause-answer
returns-clause-answer c =
    let test : c.equals.result ≡ is_same c.args.first.now c.args.second.now = is_same-is c.args.first.now c.args.second.now c.equals.result c.equals.ensures in
    c.holds.ensures.answer
    ∙ (ap (λ b. settled (truth (not b))) test
    ∙ answered-ground c.args.first.now c.args.second.now (truth (not (is_same c.args.first.now c.args.second.now))) (c.is_ground.ensures.0 c.if-not-is_ground.false) (c.is_ground-else-not-is_ground.ensures.0 c.if-not-is_ground-2.false))
