use Rattle.std.proofs.Common.{◌<◌, List, length, slice_get, option_map, subst, sym, ap, ◌∙◌}
use Rattle.le_proofs.specs.Goals.{Goal}
use Rattle.le_goals.specs.declared.frames.Frame.{Frame}
use Rattle.le_goals.specs.Frames.{goal_of}
use Rattle.le_goals.specs.Shown.{shape_of}
use Rattle.le_goals.specs.State.{AreFrames}
use Rattle.le_goals.specs.Parting.{laid_at}
use Rattle.le_goals.proofs.Restings.{seen-there, goal-seen}
use Rattle.le_goals.proofs.goals.Goals.shape_at.Goals as goal

pub shape_at-requires-clause-there : goal.shape_at-requires-clause-there
shape_at-requires-clause-there c =
    subst (λ (fs : List Frame). c.args.goal < length fs) (sym c.as_slice.ensures.value) (seen-there c.self.inside.program.now c.self.inside.store c.self.inside.frames.items c.self.inside.kept.items c.args.self.now c.args.goal c.self.view_is c.requires)

pub shape_at-requires-clause-frames : goal.shape_at-requires-clause-frames
shape_at-requires-clause-frames c =
    (length c.self.inside.store.now.terms, subst (AreFrames c.self.inside.program.now (length c.self.inside.store.now.terms) 0) (sym c.as_slice.ensures.value) c.self.invariant.frames_)

pub returns : goal.returns
returns c =
    c.shape_at.ensures c.self.inside.store.now
    ∙ (ap (λ (fs : List Frame). option_map shape_of (slice_get (goal_of c.self.inside.program.now c.self.inside.store.now (laid_at c.self.inside.program.now fs c.args.goal)).literals c.args.place)) c.as_slice.ensures.value
    ∙ ap (λ (g : Goal). option_map shape_of (slice_get g.literals c.args.place)) (goal-seen c.self.inside.program.now c.self.inside.store c.self.inside.frames.items c.self.inside.kept.items c.args.self.now c.args.goal c.self.view_is c.requires))
