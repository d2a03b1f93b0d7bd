use Rattle.std.proofs.Common.{rules, ◌≡◌, ◌∷◌, [], refl, sym, ap, ◌∙◌}
use Rattle.le_terms.specs.Tree.{Tree, number, flat}
use Rattle.le_subst.specs.Solution.{solve_of}
use Rattle.le_proofs.specs.Search.{by_solution, by_fold}
use Rattle.le_gather.specs.Folds.{fold_of}
use Rattle.le_goals.specs.Shown.{literal_of, result_of}
use Rattle.le_cells.specs.Keeping.{goal_now}
use Rattle.le_cells.proofs.Becoming.{becomes-by}
use Rattle.le_cells.proofs.gathering.gathered.Goals as goal

pub returns-in_ok-equal-in-Value-clause-outcome : goal.returns-in_ok-equal-in-Value-clause-outcome
returns-in_ok-equal-in-Value-clause-outcome c = λ target value atom is.
    let now = c.args.goals.now in
    let left : Tree = result_of (literal_of (goal_now now c.args.goal) c.args.place).form in
    let right : Tree = number c.in-Value.number in
    let same : flat right ≡ c.number_symbol-total.result ∷ [] = search rules in
    becomes-by now.now c.equate_result.new.self.now left right c.in_ok-equal-in-Value.equal c.by_equation.result (by_fold c.args.line target (fold_of c.args.kind c.args.values.now)) (c.in_ok-equal-in-Value.ensures.equates right same) c.by_equation.ensures.outcome
    (ap (λ f. by_solution (solve_of ((result_of f, right) ∷ []))) is ∙ ap (by_fold c.args.line target) (sym (sym c.fold.ensures ∙ c.in-Value.is)))
