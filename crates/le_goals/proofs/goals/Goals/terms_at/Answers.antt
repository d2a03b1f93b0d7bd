use Rattle.std.proofs.Common.{◌≤◌, ◌∙◌, length, arith}
use Rattle.le_goals.proofs.LastFrames.{past-terms}
use Rattle.le_goals.proofs.goals.Goals.terms_at.Goals as goal

pub returns-then-goal-len : goal.returns-then-goal-len
returns-then-goal-len c =
    let past : length c.self.inside.frames.items ≤ c.args.goal = omega (arith, c.len.ensures, c.self.inside.frames.ok.0) in
    c.new.ensures.items ∙ past-terms c.self.inside.program.now c.self.inside.store c.self.inside.frames.items c.self.inside.kept.items c.args.self.now c.args.goal c.self.view_is past
