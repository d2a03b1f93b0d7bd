use Rattle.std.proofs.Common.{◌≡◌, ◌<◌, [], ◌∷◌, length, sym, ap, ap₂, subst, ◌∙◌}
use Rattle.std.specs.Prelude.{IfOk}
use Rattle.le_subst.specs.Solution.{solve_of}
use Rattle.std.proofs.lemmas.List.{get_or_default}
use Rattle.le_terms.specs.Tree.{nil}
use Rattle.le_builtins.specs.Compute.{compute, argument}
use Rattle.le_builtins.specs.declared.computing.Calc.TheVariants.{Gives}
use Rattle.le_proofs.specs.Search.{by_answer, by_solution, computing}
use Rattle.le_machine.specs.Keeping.{outcome_of}
use Rattle.le_machine.proofs.Turning.{some-arguments}
use Rattle.le_machine.proofs.equating.computed.Goals as goal

pub returns-in_ok-right-in-Gives-clause-outcome : goal.returns-in_ok-right-in-Gives-clause-outcome
returns-in_ok-right-in-Gives-clause-outcome c =
    let args : 0 < length c.args.atom.now.args = some-arguments c.args.atom.now.pred (length c.args.atom.now.args) c.requires.computable.1 in
    let some : 0 < length c.as_slice-args.result.now = subst (λ ts. 0 < length ts) (sym c.as_slice-args.ensures) args in
    let same : compute c.args.atom.now.pred c.args.atom.now.args ≡ Gives c.in-Gives.sym = ap (compute c.args.atom.now.pred) (sym c.as_slice-args.ensures) ∙ (sym c.compute.ensures.answer ∙ c.in-Gives.is) in
    let left : c.index-args-0-in-Gives.result ≡ argument c.args.atom.now.args 0 =
    c.index-args-0-in-Gives.is ∙ (get_or_default c.as_slice-args.result.now 0 c.index-args-0-in-Gives.result nil some ∙ ap (λ ts. argument ts 0) c.as_slice-args.ensures) in
    let equation : by_solution (solve_of ((c.index-args-0-in-Gives.result, c.in_ok-right-in-Gives.right) ∷ [])) ≡ computing c.args.line c.args.atom.now =
    ap₂ (λ l r. by_solution (solve_of ((l, r) ∷ []))) left c.in_ok-right-in-Gives.ensures.term ∙ sym (ap (by_answer c.args.line c.args.atom.now.args) same) in
    subst (λ o. IfOk c.equate-in-Gives.result (λ outcome. outcome_of outcome ≡ o)) equation c.equate-in-Gives.ensures.outcome
