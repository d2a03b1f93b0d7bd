use Rattle.std.proofs.Common.{List, subst, Some, Option}
use Rattle.std.proofs.lemmas.Result.{IfOk-weaker}
use Rattle.le_goals.specs.declared.frames.Walk.{Walk}
use Rattle.le_goals.specs.declared.frames.Frame.{Frame}
use Rattle.le_goals.specs.State.{AreFrames}
use Rattle.le_goals.specs.Parting.{Finds, part_literals}
use Rattle.le_goals.proofs.Parts.{grows-then}
use Rattle.le_goals.proofs.Puttings.{put-result}
use Rattle.le_goals.proofs.parting.put.Goals as goal

pub returns-in_ok-rest-in-Some-clause-grows : goal.returns-in_ok-rest-in-Some-clause-grows
returns-in_ok-rest-in-Some-clause-grows c = λ program cells fits new.
    let P : Option Walk → Type 0 = λ found. Finds program cells c.deref.result.now c.args.goal c.args.place found in
    let Q : List Frame → Type 0 = λ fs. AreFrames program cells 0 fs → Finds program cells fs c.args.goal c.args.place (Some c.in-Some.walk) in
    let stands : Finds program cells c.args.frames.now.items c.args.goal c.args.place (Some c.in-Some.walk) = subst Q c.deref.ensures.value (λ here. subst P c.in-Some.is (c.in_ok-walk.ensures program cells here)) fits in
    let around = c.put_around.ensures.grows program cells fits stands.part new stands.rest in
    grows-then program cells c.args.frames.now.items c.put_around.new.frames.items c.put_all.new.frames.items around
    (c.put_all.ensures.grows program cells around.fits stands.passed_ (c.in_ok-rest-in-Some.ensures.put program cells fits stands.part new stands.rest).there)

pub returns-in_ok-rest-in-Some-clause-put : goal.returns-in_ok-rest-in-Some-clause-put
returns-in_ok-rest-in-Some-clause-put c =
    IfOk-weaker c.put_all.result _ _
    (λ number put program cells fits new low.
    let P : Option Walk → Type 0 = λ found. Finds program cells c.deref.result.now c.args.goal c.args.place found in
    let Q : List Frame → Type 0 = λ fs. AreFrames program cells 0 fs → Finds program cells fs c.args.goal c.args.place (Some c.in-Some.walk) in
    let stands : Finds program cells c.args.frames.now.items c.args.goal c.args.place (Some c.in-Some.walk) = subst Q c.deref.ensures.value (λ here. subst P c.in-Some.is (c.in_ok-walk.ensures program cells here)) fits in
    let around = c.put_around.ensures.grows program cells fits stands.part new stands.rest in
    let first = c.in_ok-rest-in-Some.ensures.put program cells fits stands.part new stands.rest in
    put-result program cells c.args.frames.now.items c.put_around.new.frames.items c.put_all.new.frames.items c.args.goal c.args.place c.in_ok-rest-in-Some.rest number c.in-Some.walk.passed.items c.in-Some.walk.spot
    (part_literals program c.args.new) stands fits first (put program cells around.fits stands.passed_ first.there))
    c.put_all.ensures.put
