use Rattle.std.proofs.Common.{◌<◌, length}
use Rattle.std.proofs.lemmas.Result.{IfOk-weaker}
use Rattle.le_goals.specs.Parting.{laid_at}
use Rattle.le_goals.proofs.Restings.{there, grown, grown-marks, grown-keeps, rest-found}
use Rattle.le_goals.proofs.goals.Goals.rest.Goals as goal

pub put-requires-clause-there : goal.put-requires-clause-there
put-requires-clause-there c = (there c.self.inside.program.now c.self.inside.store c.self.inside.frames.items c.self.inside.kept.items c.self.invariant c.args.self.now c.args.goal c.args.place c.self.view_is c.requires).0

pub invariant_of-self : goal.invariant_of-self
invariant_of-self c =
    grown c.self.inside.program.now c.self.inside.store c.self.inside.frames.items c.self.inside.kept.items c.self.invariant c.put.new.frames.items
    (c.put.ensures.grows c.self.inside.program.now (length c.self.inside.store.now.terms) c.self.invariant.frames_ tt)

pub returns-clause-rest : goal.returns-clause-rest
returns-clause-rest c =
    let here : (c.args.goal < length c.self.inside.frames.items) × (c.args.place < length (laid_at c.self.inside.program.now c.self.inside.frames.items c.args.goal).literals) =
    there c.self.inside.program.now c.self.inside.store c.self.inside.frames.items c.self.inside.kept.items c.self.invariant c.args.self.now c.args.goal c.args.place c.self.view_is c.requires in
    IfOk-weaker c.put.result _ _
    (λ number put. rest-found c.self.inside.program.now c.self.inside.store c.self.inside.frames.items c.self.inside.kept.items c.self.invariant c.put.new.frames.items c.args.self.now c.args.goal c.args.place number c.self.view_is here.0
    (put c.self.inside.program.now (length c.self.inside.store.now.terms) c.self.invariant.frames_ tt here.1))
    c.put.ensures.put

pub returns-clause-marks : goal.returns-clause-marks
returns-clause-marks c =
    grown-marks c.self.inside.program.now c.self.inside.store c.self.inside.frames.items c.self.inside.kept.items c.self.invariant c.put.new.frames.items c.args.self.now c.self.view_is
    (c.put.ensures.grows c.self.inside.program.now (length c.self.inside.store.now.terms) c.self.invariant.frames_ tt)

pub returns-clause-others : goal.returns-clause-others
returns-clause-others c =
    grown-keeps c.self.inside.program.now c.self.inside.store c.self.inside.frames.items c.self.inside.kept.items c.self.invariant c.put.new.frames.items c.args.self.now c.self.view_is
    (c.put.ensures.grows c.self.inside.program.now (length c.self.inside.store.now.terms) c.self.invariant.frames_ tt)
