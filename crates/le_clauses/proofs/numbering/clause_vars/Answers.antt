use Rattle.std.proofs.Common.{◌≡◌, ◌++◌, ℕ, List, IfOk, sym, ap, subst, ◌∙◌}
use Rattle.le_terms.specs.Variables.{firsts, all_occurrences}
use Rattle.le_terms.specs.Program.{literals_terms}
use Rattle.le_clauses.proofs.NumberSteps.{occurrences_append}
use Rattle.le_clauses.proofs.numbering.clause_vars.Goals as goal

pub returns : goal.returns
returns c =
    let clause = c.args.clause.now in
    let first : c.add_terms.new.vars.items ≡ all_occurrences clause.head.args =
    c.in_ok-add_terms.ensures ∙ ap (λ xs. xs ++ all_occurrences c.as_slice.result.now) c.new-vars.ensures.items ∙ ap all_occurrences c.as_slice.ensures in
    let all : c.add_literals.new.vars.items ≡ all_occurrences clause.head.args ++ all_occurrences (literals_terms clause.body) =
    c.in_ok-add_literals.ensures ∙ ap (λ xs. xs ++ all_occurrences (literals_terms c.as_slice-2.result.now)) first ∙ ap (λ ls. all_occurrences clause.head.args ++ all_occurrences (literals_terms ls)) c.as_slice-2.ensures in
    let Q : List ℕ → Type 0 = λ vs. IfOk c.first_ones.result (λ vars. vars.items ≡ firsts vs) in
    subst Q (c.deref.ensures.value ∙ all ∙ sym (occurrences_append clause.head.args (literals_terms clause.body))) c.first_ones.ensures
