use Rattle.std.proofs.Common.{◌≡◌, ◌∷◌, ◌++◌, ◌+◌, ◌-◌, ◌*◌, [], ap, ◌∙◌, arith}
use Rattle.le_cells.specs.declared.goals.OpenGoal.{OpenGoal}
use Rattle.le_cells.specs.Turns.{opens_weight}
use Rattle.le_cells.proofs.Turning.{weight-push}
use Rattle.le_cells.proofs.returning.enter.Goals as goal

pub returns-clause-lighter : goal.returns-clause-lighter
returns-clause-lighter c = λ clauses less most.
    let kept : OpenGoal = record { mark = c.args.pending.mark; goal = c.args.pending.goal; place = c.args.pending.place; from = c.args.tried; steps = c.args.pending.steps; split = c.args.pending.split; children = c.in-Some.children } in
    let opens : c.push-2.new.self.items ≡ c.args.search.now.opens.items ++ kept ∷ [] = c.in_ok-push-2.ensures.items ∙ ap (λ os. os ++ kept ∷ []) c.in_ok-note.ensures.opens_ in
    let weight : opens_weight clauses c.push-2.new.self.items ≡ (2 * (clauses - c.args.tried) + 2) + opens_weight clauses c.args.search.now.opens.items =
    ap (opens_weight clauses) opens ∙ weight-push clauses c.args.search.now.opens.items kept in
    omega (arith, weight, less, most)
