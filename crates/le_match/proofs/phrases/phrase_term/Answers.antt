use Rattle.std.proofs.Common.{Some, None, slice_range, sym, ap, ◌∙◌}
use Rattle.le_base.specs.declared.code.Code.TheVariants.{NoReading}
use Rattle.le_base.specs.Stop.{refusal_at}
use Rattle.le_terms.specs.Tree.{Tree}
use Rattle.le_terms.specs.declared.term.Term.{Term}
use Rattle.le_scope.specs.declared.phrase.PhraseForm.TheVariants.{List as ListForm}
use Rattle.le_match.specs.Terms.{Found, first_of, term_of, by_simple_form, members, symbols_of, tree_found}
use Rattle.le_match.proofs.TermLemmas.{by_form_is, other_form, gives_as, gives_refused}
use Rattle.le_match.proofs.phrases.phrase_term.Goals as goal

pub returns-in_default-clause-exact : goal.returns-in_default-clause-exact
returns-in_default-clause-exact c =
    let l = c.args.layout.now in
    let from = c.args.tokens.from in
    let to = c.args.tokens.to in
    let ts = slice_range l.tokens from to in
    let us = c.args.templates.now in
    let names = c.args.names.now in
    let scope = c.args.scope.now in
    let first = first_of ts in
    let view : Term → Found Tree = λ t. record { value = t; names = names; scope = scope } in
    gives_refused view c.refused.result (refusal_at NoReading first.line first.column) (term_of us names scope c.args.query l ts) c.refused.ensures
    (by_form_is us names scope c.args.query l ts None (sym c.in_ok-form.ensures.form ∙ c.in_default.is))

pub returns-in-List-clause-exact : goal.returns-in-List-clause-exact
returns-in-List-clause-exact c =
    let l = c.args.layout.now in
    let ts = slice_range l.tokens c.args.tokens.from c.args.tokens.to in
    let us = c.args.templates.now in
    let names = c.args.names.now in
    let scope = c.args.scope.now in
    let view : Term → Found Tree = λ t. record { value = t; names = c.list_term.new.names; scope = c.list_term.new.scope } in
    gives_as view c.list_term.result (term_of us names scope c.args.query l ts) (tree_found (symbols_of us names scope c.args.query l (members ts)))
    (by_form_is us names scope c.args.query l ts (Some ListForm) (sym c.in_ok-form.ensures.form ∙ c.in-Some.is ∙ ap Some c.in-List.is)) c.list_term.ensures.exact

pub returns-in_default-form-clause-exact : goal.returns-in_default-form-clause-exact
returns-in_default-form-clause-exact c =
    let l = c.args.layout.now in
    let ts = slice_range l.tokens c.args.tokens.from c.args.tokens.to in
    let us = c.args.templates.now in
    let names = c.args.names.now in
    let scope = c.args.scope.now in
    let view : Term → Found Tree = λ t. record { value = t; names = c.simple_term.new.names; scope = c.simple_term.new.scope } in
    gives_as view c.simple_term.result (term_of us names scope c.args.query l ts) (by_simple_form us names scope c.args.query l ts (Some c.in-Some.form))
    (by_form_is us names scope c.args.query l ts (Some c.in-Some.form) (sym c.in_ok-form.ensures.form ∙ c.in-Some.is)
    ∙ other_form us names scope c.args.query l ts c.in-Some.form c.in_default-form.not-List) c.simple_term.ensures.exact
