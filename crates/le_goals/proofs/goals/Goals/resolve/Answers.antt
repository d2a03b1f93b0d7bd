use Rattle.std.proofs.Common.{◌≡◌, ◌<◌, List, Some, length, slice_get, subst, sym}
use Rattle.le_goals.specs.declared.frames.Frame.{Frame}
use Rattle.le_goals.specs.Shown.{Shown}
use Rattle.le_goals.specs.State.{IsPart, AreFrames}
use Rattle.le_goals.specs.Parting.{Grows, laid_at}
use Rattle.le_goals.specs.Unifying.{UnifiesClause}
use Rattle.le_goals.proofs.Restings.{there}
use Rattle.le_goals.proofs.Keeping.{frames-more}
use Rattle.le_goals.proofs.Resolvents.{more-cells, grown-more, grown-more-marks, a-clause, unified-some, body-ready, resolved}
use Rattle.le_goals.proofs.goals.Goals.resolve.Goals as goal

pub unify_clause-requires-clause-there : goal.unify_clause-requires-clause-there
unify_clause-requires-clause-there c =
    let low : c.args.goal < length c.self.inside.frames.items = (there c.self.inside.program.now c.self.inside.store c.self.inside.frames.items c.self.inside.kept.items c.self.invariant c.args.self.now c.args.goal c.args.place c.self.view_is c.requires.literal).0 in
    subst (λ (fs : List Frame). c.args.goal < length fs) (sym c.as_slice-frames.ensures.value) low

pub invariant_of-self : goal.invariant_of-self
invariant_of-self c = more-cells c.self.inside.program.now c.self.inside.store c.unify_clause.new.store c.self.inside.frames.items c.self.inside.kept.items c.self.invariant c.unify_clause.ensures.marks c.unify_clause.ensures.more

pub invariant_of-self-in-None : goal.invariant_of-self-in-None
invariant_of-self-in-None c = more-cells c.self.inside.program.now c.self.inside.store c.unify_clause.new.store c.self.inside.frames.items c.self.inside.kept.items c.self.invariant c.unify_clause.ensures.marks c.unify_clause.ensures.more

pub put-requires-clause-there : goal.put-requires-clause-there
put-requires-clause-there c = (there c.self.inside.program.now c.self.inside.store c.self.inside.frames.items c.self.inside.kept.items c.self.invariant c.args.self.now c.args.goal c.args.place c.self.view_is c.requires.literal).0

pub invariant_of-self-in_err-child-in-Some : goal.invariant_of-self-in_err-child-in-Some
invariant_of-self-in_err-child-in-Some c =
    let exists : c.args.clause < length c.self.inside.program.now.clauses = subst (λ (v : Shown). c.args.clause < length v.program.clauses) (sym c.self.view_is) c.requires.clause in
    let some = a-clause c.self.inside.program.now.clauses c.args.clause exists in
    let made : UnifiesClause c.self.inside.program.now c.self.inside.store c.unify_clause.new.store c.self.inside.frames.items c.args.goal c.args.place some.0 (Some c.in-Some.fresh) =
    unified-some c.self.inside.program.now c.self.inside.store c.unify_clause.new.store c.as_slice-frames.result.now c.self.inside.frames.items c.args.goal c.args.place some.0 c.in_ok-unify_clause.field-0 c.in-Some.fresh c.as_slice-frames.ensures.value c.in-Some.is (c.in_ok-unify_clause.ensures.unified some.0 some.1) in
    let part : IsPart c.self.inside.program.now (length c.unify_clause.new.store.now.terms) c.body_part-body.result =
    body-ready c.self.inside.program.now c.self.invariant.program_ c.self.inside.store c.unify_clause.new.store c.self.inside.frames.items c.args.goal c.args.place c.args.clause some.0 c.in-Some.fresh c.body_part-body.result some.1 made (c.body_part-body.ensures some.0 some.1) in
    let fits : AreFrames c.self.inside.program.now (length c.unify_clause.new.store.now.terms) 0 c.self.inside.frames.items = frames-more c.self.inside.program.now (length c.self.inside.store.now.terms) (length c.unify_clause.new.store.now.terms) 0 c.unify_clause.ensures.more c.self.inside.frames.items c.self.invariant.frames_ in
    let grows : Grows c.self.inside.program.now (length c.unify_clause.new.store.now.terms) c.self.inside.frames.items c.put.new.frames.items = c.put.ensures.grows c.self.inside.program.now (length c.unify_clause.new.store.now.terms) fits part in
    grown-more c.self.inside.program.now c.self.inside.store c.unify_clause.new.store c.self.inside.frames.items c.put.new.frames.items c.self.inside.kept.items c.self.invariant c.unify_clause.ensures.marks grows

pub invariant_of-self-in-Some : goal.invariant_of-self-in-Some
invariant_of-self-in-Some c =
    let exists : c.args.clause < length c.self.inside.program.now.clauses = subst (λ (v : Shown). c.args.clause < length v.program.clauses) (sym c.self.view_is) c.requires.clause in
    let some = a-clause c.self.inside.program.now.clauses c.args.clause exists in
    let made : UnifiesClause c.self.inside.program.now c.self.inside.store c.unify_clause.new.store c.self.inside.frames.items c.args.goal c.args.place some.0 (Some c.in-Some.fresh) =
    unified-some c.self.inside.program.now c.self.inside.store c.unify_clause.new.store c.as_slice-frames.result.now c.self.inside.frames.items c.args.goal c.args.place some.0 c.in_ok-unify_clause.field-0 c.in-Some.fresh c.as_slice-frames.ensures.value c.in-Some.is (c.in_ok-unify_clause.ensures.unified some.0 some.1) in
    let part : IsPart c.self.inside.program.now (length c.unify_clause.new.store.now.terms) c.body_part-body.result =
    body-ready c.self.inside.program.now c.self.invariant.program_ c.self.inside.store c.unify_clause.new.store c.self.inside.frames.items c.args.goal c.args.place c.args.clause some.0 c.in-Some.fresh c.body_part-body.result some.1 made (c.body_part-body.ensures some.0 some.1) in
    let fits : AreFrames c.self.inside.program.now (length c.unify_clause.new.store.now.terms) 0 c.self.inside.frames.items = frames-more c.self.inside.program.now (length c.self.inside.store.now.terms) (length c.unify_clause.new.store.now.terms) 0 c.unify_clause.ensures.more c.self.inside.frames.items c.self.invariant.frames_ in
    let grows : Grows c.self.inside.program.now (length c.unify_clause.new.store.now.terms) c.self.inside.frames.items c.put.new.frames.items = c.put.ensures.grows c.self.inside.program.now (length c.unify_clause.new.store.now.terms) fits part in
    grown-more c.self.inside.program.now c.self.inside.store c.unify_clause.new.store c.self.inside.frames.items c.put.new.frames.items c.self.inside.kept.items c.self.invariant c.unify_clause.ensures.marks grows

pub returns-in_err-child-in-Some-clause-marks : goal.returns-in_err-child-in-Some-clause-marks
returns-in_err-child-in-Some-clause-marks c =
    let exists : c.args.clause < length c.self.inside.program.now.clauses = subst (λ (v : Shown). c.args.clause < length v.program.clauses) (sym c.self.view_is) c.requires.clause in
    let some = a-clause c.self.inside.program.now.clauses c.args.clause exists in
    let made : UnifiesClause c.self.inside.program.now c.self.inside.store c.unify_clause.new.store c.self.inside.frames.items c.args.goal c.args.place some.0 (Some c.in-Some.fresh) =
    unified-some c.self.inside.program.now c.self.inside.store c.unify_clause.new.store c.as_slice-frames.result.now c.self.inside.frames.items c.args.goal c.args.place some.0 c.in_ok-unify_clause.field-0 c.in-Some.fresh c.as_slice-frames.ensures.value c.in-Some.is (c.in_ok-unify_clause.ensures.unified some.0 some.1) in
    let part : IsPart c.self.inside.program.now (length c.unify_clause.new.store.now.terms) c.body_part-body.result =
    body-ready c.self.inside.program.now c.self.invariant.program_ c.self.inside.store c.unify_clause.new.store c.self.inside.frames.items c.args.goal c.args.place c.args.clause some.0 c.in-Some.fresh c.body_part-body.result some.1 made (c.body_part-body.ensures some.0 some.1) in
    let fits : AreFrames c.self.inside.program.now (length c.unify_clause.new.store.now.terms) 0 c.self.inside.frames.items = frames-more c.self.inside.program.now (length c.self.inside.store.now.terms) (length c.unify_clause.new.store.now.terms) 0 c.unify_clause.ensures.more c.self.inside.frames.items c.self.invariant.frames_ in
    let grows : Grows c.self.inside.program.now (length c.unify_clause.new.store.now.terms) c.self.inside.frames.items c.put.new.frames.items = c.put.ensures.grows c.self.inside.program.now (length c.unify_clause.new.store.now.terms) fits part in
    grown-more-marks c.self.inside.program.now c.self.inside.store c.unify_clause.new.store c.self.inside.frames.items c.put.new.frames.items c.self.inside.kept.items c.args.self.now c.self.invariant c.self.view_is c.unify_clause.ensures.marks grows

pub returns-in_ok-child-in-Some-clause-marks : goal.returns-in_ok-child-in-Some-clause-marks
returns-in_ok-child-in-Some-clause-marks c =
    let exists : c.args.clause < length c.self.inside.program.now.clauses = subst (λ (v : Shown). c.args.clause < length v.program.clauses) (sym c.self.view_is) c.requires.clause in
    let some = a-clause c.self.inside.program.now.clauses c.args.clause exists in
    let made : UnifiesClause c.self.inside.program.now c.self.inside.store c.unify_clause.new.store c.self.inside.frames.items c.args.goal c.args.place some.0 (Some c.in-Some.fresh) =
    unified-some c.self.inside.program.now c.self.inside.store c.unify_clause.new.store c.as_slice-frames.result.now c.self.inside.frames.items c.args.goal c.args.place some.0 c.in_ok-unify_clause.field-0 c.in-Some.fresh c.as_slice-frames.ensures.value c.in-Some.is (c.in_ok-unify_clause.ensures.unified some.0 some.1) in
    let part : IsPart c.self.inside.program.now (length c.unify_clause.new.store.now.terms) c.body_part-body.result =
    body-ready c.self.inside.program.now c.self.invariant.program_ c.self.inside.store c.unify_clause.new.store c.self.inside.frames.items c.args.goal c.args.place c.args.clause some.0 c.in-Some.fresh c.body_part-body.result some.1 made (c.body_part-body.ensures some.0 some.1) in
    let fits : AreFrames c.self.inside.program.now (length c.unify_clause.new.store.now.terms) 0 c.self.inside.frames.items = frames-more c.self.inside.program.now (length c.self.inside.store.now.terms) (length c.unify_clause.new.store.now.terms) 0 c.unify_clause.ensures.more c.self.inside.frames.items c.self.invariant.frames_ in
    let grows : Grows c.self.inside.program.now (length c.unify_clause.new.store.now.terms) c.self.inside.frames.items c.put.new.frames.items = c.put.ensures.grows c.self.inside.program.now (length c.unify_clause.new.store.now.terms) fits part in
    grown-more-marks c.self.inside.program.now c.self.inside.store c.unify_clause.new.store c.self.inside.frames.items c.put.new.frames.items c.self.inside.kept.items c.args.self.now c.self.invariant c.self.view_is c.unify_clause.ensures.marks grows

pub returns-in_ok-child-in-Some-clause-resolves : goal.returns-in_ok-child-in-Some-clause-resolves
returns-in_ok-child-in-Some-clause-resolves c = λ one is_one.
    let found : slice_get c.self.inside.program.now.clauses c.args.clause ≡ Some one = subst (λ (v : Shown). slice_get v.program.clauses c.args.clause ≡ Some one) (sym c.self.view_is) is_one in
    let made : UnifiesClause c.self.inside.program.now c.self.inside.store c.unify_clause.new.store c.self.inside.frames.items c.args.goal c.args.place one (Some c.in-Some.fresh) =
    unified-some c.self.inside.program.now c.self.inside.store c.unify_clause.new.store c.as_slice-frames.result.now c.self.inside.frames.items c.args.goal c.args.place one c.in_ok-unify_clause.field-0 c.in-Some.fresh c.as_slice-frames.ensures.value c.in-Some.is (c.in_ok-unify_clause.ensures.unified one found) in
    let part : IsPart c.self.inside.program.now (length c.unify_clause.new.store.now.terms) c.body_part-body.result =
    body-ready c.self.inside.program.now c.self.invariant.program_ c.self.inside.store c.unify_clause.new.store c.self.inside.frames.items c.args.goal c.args.place c.args.clause one c.in-Some.fresh c.body_part-body.result found made (c.body_part-body.ensures one found) in
    let fits : AreFrames c.self.inside.program.now (length c.unify_clause.new.store.now.terms) 0 c.self.inside.frames.items = frames-more c.self.inside.program.now (length c.self.inside.store.now.terms) (length c.unify_clause.new.store.now.terms) 0 c.unify_clause.ensures.more c.self.inside.frames.items c.self.invariant.frames_ in
    let grows : Grows c.self.inside.program.now (length c.unify_clause.new.store.now.terms) c.self.inside.frames.items c.put.new.frames.items = c.put.ensures.grows c.self.inside.program.now (length c.unify_clause.new.store.now.terms) fits part in
    let here : (c.args.goal < length c.self.inside.frames.items) × (c.args.place < length (laid_at c.self.inside.program.now c.self.inside.frames.items c.args.goal).literals) =
    there c.self.inside.program.now c.self.inside.store c.self.inside.frames.items c.self.inside.kept.items c.self.invariant c.args.self.now c.args.goal c.args.place c.self.view_is c.requires.literal in
    resolved c.self.inside.program.now c.self.inside.store c.unify_clause.new.store c.self.inside.frames.items c.put.new.frames.items c.self.inside.kept.items c.args.self.now c.self.invariant c.self.view_is c.args.goal c.args.place c.args.clause one c.in-Some.fresh c.in_ok-child-in-Some.child c.body_part-body.result here.0 found made
    (c.body_part-body.ensures one found) grows (c.in_ok-child-in-Some.ensures.put c.self.inside.program.now (length c.unify_clause.new.store.now.terms) fits part here.1)
