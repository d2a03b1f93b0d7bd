use Rattle.std.proofs.Common.{rules, ◌≡◌, true, ◌∷◌, [], refl, sym, ap, subst, ◌∙◌}
use Rattle.std.specs.Prelude.{IfOk}
use Rattle.le_terms.specs.Tree.{Tree, tree_of}
use Rattle.le_terms.specs.Program.{form_atom}
use Rattle.le_builtins.specs.Compute.{argument}
use Rattle.le_terms.specs.declared.program.Form.TheVariants.{Calc as Computing}
use Rattle.le_builtins.specs.Compute as specs
use Rattle.le_subst.specs.Solution.{solve_of}
use Rattle.le_proofs.specs.Search.{by_answer, by_solution, computing}
use Rattle.le_goals.specs.Shown.{literal_of, result_of, argument_at, Equates, IsWholeSymbol}
use Rattle.le_cells.specs.Keeping.{goal_now}
use Rattle.le_cells.proofs.Becoming.{becomes-by, computing-equation, leaf-tree}
use Rattle.le_cells.proofs.equating.computed.Goals as goal

pub returns-then-pred-eq-EQUAL_TO-clause-outcome : goal.returns-then-pred-eq-EQUAL_TO-clause-outcome
returns-then-pred-eq-EQUAL_TO-clause-outcome c = λ atom is pred.
    let now = c.args.goals.now in
    let left : Tree = argument_at now.now c.args.goal c.args.place 0 in
    let right : Tree = argument_at now.now c.args.goal c.args.place 1 in
    becomes-by now.now c.equate_arguments.new.self.now left right c.in_ok-equal.equal c.by_equation.result (computing c.args.line atom) c.in_ok-equal.ensures.equates c.by_equation.ensures.outcome
    (ap (λ f. by_solution (solve_of ((argument (form_atom f).args 0, argument (form_atom f).args 1) ∷ []))) is ∙ computing-equation c.args.line atom (sym (sym pred ∙ c.if-pred-eq-EQUAL_TO.true)))

pub equate_result-requires-clause-whole : goal.equate_result-requires-clause-whole
equate_result-requires-clause-whole c = c.if-not-is_whole.ensures refl (subst specs.GivesLeaf c.in-Gives.is c.in_ok-calculated.ensures.in_range)

pub returns-in_ok-equal-in-Gives-clause-outcome : goal.returns-in_ok-equal-in-Gives-clause-outcome
returns-in_ok-equal-in-Gives-clause-outcome c = λ atom is pred.
    let now = c.args.goals.now in
    let whole : IsWholeSymbol c.in-Gives.sym = c.if-not-is_whole.ensures refl (subst specs.GivesLeaf c.in-Gives.is c.in_ok-calculated.ensures.in_range) in
    let right : Tree = tree_of (c.in-Gives.sym ∷ []) in
    let left : Tree = result_of (literal_of (goal_now now c.args.goal) c.args.place).form in
    becomes-by now.now c.equate_result.new.self.now left right c.in_ok-equal-in-Gives.equal c.by_equation-in-Gives.result (computing c.args.line atom) (c.in_ok-equal-in-Gives.ensures.equates right (leaf-tree c.in-Gives.sym whole)) c.by_equation-in-Gives.ensures.outcome
    (ap (λ f. by_solution (solve_of ((result_of f, right) ∷ []))) is ∙ ap (by_answer c.args.line atom.args) (sym (sym (c.in_ok-calculated.ensures.answer atom is) ∙ c.in-Gives.is)))
