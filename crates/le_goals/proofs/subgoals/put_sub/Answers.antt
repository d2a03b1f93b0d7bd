use Rattle.std.proofs.Common.{rules, ◌≡◌, ◌+◌, ◌<◌, ℕ, List, [], ◌∷◌, ◌++◌, Some, length, subst, sym, ap, ◌∙◌}
use Rattle.std.proofs.lemmas.Result.{IfOk-weaker}
use Rattle.le_goals.specs.declared.frames.Frame.{Frame}
use Rattle.le_goals.specs.declared.frames.Frame.TheVariants.{Empty}
use Rattle.le_goals.specs.Frames.{before, part_of}
use Rattle.le_goals.specs.State.{AreFrames}
use Rattle.le_goals.specs.Parting.{FindsSpot, Puts, laid_at, one_part, sub_answers}
use Rattle.le_goals.proofs.Spots.{get-from}
use Rattle.le_goals.proofs.Parts.{grows-then}
use Rattle.le_goals.proofs.Atoms.{end-grows, end-there, one-fits, put-sub}
use Rattle.le_goals.proofs.subgoals.put_sub.Goals as goal

pub returns-clause-grows : goal.returns-clause-grows
returns-clause-grows c = λ cells fits.
    let Q : List Frame → Type 0 = λ fs. AreFrames c.args.program.now cells 0 fs → FindsSpot c.args.program.now cells fs c.args.goal c.args.place (Some c.in-Some.spot) in
    let found : FindsSpot c.args.program.now cells c.args.frames.now.items c.args.goal c.args.place (Some c.in-Some.spot) = subst Q c.as_slice.ensures.value (c.in-Some.ensures c.args.program.now cells) fits in
    let pushed : c.push.new.self.items ≡ c.args.frames.now.items ++ Empty (sub_answers c.index-literals_in-at.result c.in-Some.spot.part (c.in-Some.spot.part.from + c.in-Some.spot.left)) ∷ [] = c.in_ok-push.ensures.items ∙ ap (λ a. c.args.frames.now.items ++ Empty a ∷ []) c.sub_answers.ensures in
    let first = end-grows c.args.program.now cells c.args.frames.now.items c.push.new.self.items c.args.goal c.args.place found.0 c.in-Some.spot found.1 c.index-literals_in-at.result fits pushed in
    let count : c.len-end.result ≡ length c.args.frames.now.items = search rules in
    let there : c.len-end.result < length c.push.new.self.items = subst (λ n. n < length c.push.new.self.items) (sym count) (end-there c.args.program.now cells c.args.frames.now.items c.push.new.self.items c.args.goal c.args.place found.0 c.in-Some.spot found.1 c.index-literals_in-at.result fits pushed) in
    grows-then c.args.program.now cells c.args.frames.now.items c.push.new.self.items c.put_before.new.frames.items first
    (c.put_before.ensures.grows c.args.program.now cells first.fits (one-fits c.args.program.now cells c.args.frames.now.items c.push.new.self.items c.args.goal c.args.place found.0 c.in-Some.spot found.1 c.index-literals_in-at.result fits pushed) there)

pub returns-clause-put : goal.returns-clause-put
returns-clause-put c =
    IfOk-weaker c.put_before.result _ _
    (λ number put cells fits.
    let Q : List Frame → Type 0 = λ fs. AreFrames c.args.program.now cells 0 fs → FindsSpot c.args.program.now cells fs c.args.goal c.args.place (Some c.in-Some.spot) in
    let found : FindsSpot c.args.program.now cells c.args.frames.now.items c.args.goal c.args.place (Some c.in-Some.spot) = subst Q c.as_slice.ensures.value (c.in-Some.ensures c.args.program.now cells) fits in
    let pushed : c.push.new.self.items ≡ c.args.frames.now.items ++ Empty (sub_answers c.index-literals_in-at.result c.in-Some.spot.part (c.in-Some.spot.part.from + c.in-Some.spot.left)) ∷ [] = c.in_ok-push.ensures.items ∙ ap (λ a. c.args.frames.now.items ++ Empty a ∷ []) c.sub_answers.ensures in
    let first = end-grows c.args.program.now cells c.args.frames.now.items c.push.new.self.items c.args.goal c.args.place found.0 c.in-Some.spot found.1 c.index-literals_in-at.result fits pushed in
    let count : c.len-end.result ≡ length c.args.frames.now.items = search rules in
    let there : c.len-end.result < length c.push.new.self.items = subst (λ n. n < length c.push.new.self.items) (sym count) (end-there c.args.program.now cells c.args.frames.now.items c.push.new.self.items c.args.goal c.args.place found.0 c.in-Some.spot found.1 c.index-literals_in-at.result fits pushed) in
    let P : ℕ → Type 0 = λ n. Puts c.args.program.now cells c.push.new.self.items c.put_before.new.frames.items number (before (part_of c.args.program.now (one_part c.in-Some.spot.part (c.in-Some.spot.part.from + c.in-Some.spot.left))) (laid_at c.args.program.now c.push.new.self.items n)) in
    put-sub c.args.program.now cells c.args.frames.now.items c.push.new.self.items c.args.goal c.args.place found.0 c.in-Some.spot found.1 c.index-literals_in-at.result fits pushed c.put_before.new.frames.items number _
    (get-from c.literals_in.result.now _ (c.in-Some.spot.part.from + c.in-Some.spot.left) c.index-literals_in-at.result _ c.index-literals_in-at.is c.literals_in.ensures)
    (subst P count (put c.args.program.now cells first.fits (one-fits c.args.program.now cells c.args.frames.now.items c.push.new.self.items c.args.goal c.args.place found.0 c.in-Some.spot found.1 c.index-literals_in-at.result fits pushed) there)))
    c.put_before.ensures.put
