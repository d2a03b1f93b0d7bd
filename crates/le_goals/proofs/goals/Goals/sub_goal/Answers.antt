use Rattle.std.proofs.Common.{◌<◌, length}
use Rattle.std.proofs.lemmas.Result.{IfOk-weaker}
use Rattle.le_goals.specs.Parting.{laid_at}
use Rattle.le_goals.proofs.Restings.{there, grown, grown-marks, grown-keeps}
use Rattle.le_goals.proofs.Atoms.{sub-found}
use Rattle.le_goals.proofs.goals.Goals.sub_goal.Goals as goal

pub put_sub-requires-clause-there : goal.put_sub-requires-clause-there
put_sub-requires-clause-there c = (there c.self.inside.program.now c.self.inside.store c.self.inside.frames.items c.self.inside.kept.items c.self.invariant c.args.self.now c.args.goal c.args.place c.self.view_is c.requires).0

pub invariant_of-self : goal.invariant_of-self
invariant_of-self c =
    grown c.self.inside.program.now c.self.inside.store c.self.inside.frames.items c.self.inside.kept.items c.self.invariant c.put_sub.new.frames.items
    (c.put_sub.ensures.grows (length c.self.inside.store.now.terms) c.self.invariant.frames_)

pub put_sub-requires-clause-literal : goal.put_sub-requires-clause-literal
put_sub-requires-clause-literal c = (there c.self.inside.program.now c.self.inside.store c.self.inside.frames.items c.self.inside.kept.items c.self.invariant c.args.self.now c.args.goal c.args.place c.self.view_is c.requires).1

pub returns-clause-sub : goal.returns-clause-sub
returns-clause-sub c =
    let here : (c.args.goal < length c.self.inside.frames.items) × (c.args.place < length (laid_at c.self.inside.program.now c.self.inside.frames.items c.args.goal).literals) =
    there c.self.inside.program.now c.self.inside.store c.self.inside.frames.items c.self.inside.kept.items c.self.invariant c.args.self.now c.args.goal c.args.place c.self.view_is c.requires in
    IfOk-weaker c.put_sub.result _ _
    (λ number put. sub-found c.self.inside.program.now c.self.inside.store c.self.inside.frames.items c.put_sub.new.frames.items c.self.inside.kept.items c.args.self.now c.self.view_is c.args.goal c.args.place number here.0
    (put (length c.self.inside.store.now.terms) c.self.invariant.frames_))
    c.put_sub.ensures.put

pub returns-clause-marks : goal.returns-clause-marks
returns-clause-marks c =
    grown-marks c.self.inside.program.now c.self.inside.store c.self.inside.frames.items c.self.inside.kept.items c.self.invariant c.put_sub.new.frames.items c.args.self.now c.self.view_is
    (c.put_sub.ensures.grows (length c.self.inside.store.now.terms) c.self.invariant.frames_)

pub returns-clause-others : goal.returns-clause-others
returns-clause-others c =
    grown-keeps c.self.inside.program.now c.self.inside.store c.self.inside.frames.items c.self.inside.kept.items c.self.invariant c.put_sub.new.frames.items c.args.self.now c.self.view_is
    (c.put_sub.ensures.grows (length c.self.inside.store.now.terms) c.self.invariant.frames_)
