use Rattle.std.proofs.Common.{◌<◌, List, length, subst, sym}
use Rattle.le_goals.specs.declared.frames.Frame.{Frame}
use Rattle.le_goals.proofs.Restings.{there}
use Rattle.le_goals.proofs.goals.Goals.is_ground_at.Goals as goal

pub is_ground_in-requires-clause-there : goal.is_ground_in-requires-clause-there
is_ground_in-requires-clause-there c =
    let low : c.args.goal < length c.self.inside.frames.items = (there c.self.inside.program.now c.self.inside.store c.self.inside.frames.items c.self.inside.kept.items c.self.invariant c.args.self.now c.args.goal c.args.place c.self.view_is c.requires).0 in
    subst (λ (fs : List Frame). c.args.goal < length fs) (sym c.as_slice-frames.ensures.value) low
