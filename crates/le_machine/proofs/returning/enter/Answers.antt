use Rattle.std.proofs.Common.{rules, ◌≡◌, ◌∷◌, ◌++◌, ◌+◌, ◌-◌, ◌*◌, [], take, reverse, refl, ap, ◌∙◌, append-nil, arith}
use Rattle.le_derivations.specs.declared.path.PathStep.{PathStep}
use Rattle.le_machine.specs.declared.goals.OpenGoal.{OpenGoal}
use Rattle.le_machine.specs.declared.goals.Search.{Search}
use Rattle.le_machine.specs.Turns.{opens_weight}
use Rattle.le_machine.proofs.Turning.{newest, weight-push}
use Rattle.le_machine.proofs.Walking.{next-child}
use Rattle.le_machine.proofs.returning.enter.Goals as goal

pub returns-clause-comes : goal.returns-clause-comes
returns-clause-comes c = λ program literal atom root total less found inside read form node goes walk.
    let before : Search = c.args.search.now in
    let ext = c.in_ok-note.ensures in
    let after : Search = record { keeps = c.note.new.search.keeps; path = c.note.new.search.path; nodes = c.note.new.search.nodes; opens = c.push-2.new.self } in
    let step : PathStep = record { place = c.args.pending.place; unifier = c.args.child.unifier; node = c.args.node; below = c.from_vec.result } in
    let below : c.from_vec.result ≡ [] = search rules in
    let more : c.in-Some.children ≡ c.args.pending.children + 1 = search rules in
    let kept : OpenGoal = record { goal = c.args.pending.goal; place = c.args.pending.place; from = c.args.tried; steps = c.args.pending.steps; split = c.args.pending.split; children = c.in-Some.children } in
    let pushed : c.push.new.self.items ≡ take c.args.pending.steps before.path.items ++ step ∷ [] = c.in_ok-push.ensures.items ∙ ap (λ ps. ps ++ step ∷ []) c.truncate.ensures.items in
    let path : c.note.new.search.path.items ≡ take c.args.pending.steps before.path.items ++ step ∷ [] = ext.path_ ∙ (append-nil c.push.new.self.items ∙ pushed) in
    let opens : c.push-2.new.self.items ≡ before.opens.items ++ kept ∷ [] = c.in_ok-push-2.ensures.items ∙ ap (λ os. os ++ kept ∷ []) ext.opens_ in
    next-child program before.keeps before.path.items before.nodes.items c.args.pending (reverse before.opens.items) root total less found after c.args.child c.args.tried literal atom step kept ext.keeps_ path
    (ap reverse opens ∙ newest before.opens.items kept) ext.nodes_ (ap (λ n. let k : OpenGoal = record { goal = c.args.pending.goal; place = c.args.pending.place; from = c.args.tried; steps = c.args.pending.steps; split = c.args.pending.split; children = n } in k) more)
    refl refl node below inside read form goes walk

pub returns-clause-lighter : goal.returns-clause-lighter
returns-clause-lighter c = λ clauses less most.
    let kept : OpenGoal = record { goal = c.args.pending.goal; place = c.args.pending.place; from = c.args.tried; steps = c.args.pending.steps; split = c.args.pending.split; children = c.in-Some.children } in
    let opens : c.push-2.new.self.items ≡ c.args.search.now.opens.items ++ kept ∷ [] = c.in_ok-push-2.ensures.items ∙ ap (λ os. os ++ kept ∷ []) c.in_ok-note.ensures.opens_ in
    let weight : opens_weight clauses c.push-2.new.self.items ≡ (2 * (clauses - c.args.tried) + 2) + opens_weight clauses c.args.search.now.opens.items =
    ap (opens_weight clauses) opens ∙ weight-push clauses c.args.search.now.opens.items kept in
    omega (arith, weight, less, most)
