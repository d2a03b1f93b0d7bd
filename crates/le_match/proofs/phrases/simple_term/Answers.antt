use Rattle.std.proofs.Common.{rules, ◌≡◌, Some, drop, slice_range, sym, ap, ◌∙◌}
use Rattle.le_base.specs.declared.code.Code.TheVariants.{NoReading, WhichHere}
use Rattle.le_base.specs.Stop.{refusal_at}
use Rattle.le_layout.specs.Words.{text_of}
use Rattle.le_terms.specs.Tree.{Tree, number, date}
use Rattle.le_terms.specs.declared.term.Term.{Term}
use Rattle.le_scope.specs.declared.phrase.PhraseForm.TheVariants.{Number, Day, Quote, List as ListForm, A, The, Which, Constant}
use Rattle.le_scope.specs.Phrases.{phrase_name}
use Rattle.le_scope.specs.Scopes.{place_of}
use Rattle.le_match.specs.Terms.{Found, first_of, last_of, by_simple_form, by_place, introducing, asking, constant_found, term_found}
use Rattle.le_match.proofs.TermLemmas.{first_is, form_is, constant_is, gives_as, gives_refused}
use Rattle.le_match.proofs.phrases.simple_term.Goals as goal

pub returns-in_ok-number-in-Number-clause-exact : goal.returns-in_ok-number-in-Number-clause-exact
returns-in_ok-number-in-Number-clause-exact c =
    let l = c.args.layout.now in
    let ts = slice_range l.tokens c.args.tokens.from c.args.tokens.to in
    let value : c.in_ok-number-in-Number.field-0 ≡ number c.in-Number.n = search rules in
    form_is c.args.templates.now c.args.names.now c.args.scope.now c.args.query l ts (Number c.in-Number.n) c.args.form c.in-Number.is
    ∙ ap (term_found c.args.names.now c.args.scope.now) (sym value)

pub returns-in_ok-date-in-Day-clause-exact : goal.returns-in_ok-date-in-Day-clause-exact
returns-in_ok-date-in-Day-clause-exact c =
    let l = c.args.layout.now in
    let ts = slice_range l.tokens c.args.tokens.from c.args.tokens.to in
    let value : c.in_ok-date-in-Day.field-0 ≡ date c.in-Day.day = search rules in
    form_is c.args.templates.now c.args.names.now c.args.scope.now c.args.query l ts (Day c.in-Day.day) c.args.form c.in-Day.is
    ∙ ap (term_found c.args.names.now c.args.scope.now) (sym value)

pub returns-in_ok-constant-in-Quote-clause-exact : goal.returns-in_ok-constant-in-Quote-clause-exact
returns-in_ok-constant-in-Quote-clause-exact c =
    let l = c.args.layout.now in
    let from = c.args.tokens.from in
    let to = c.args.tokens.to in
    let ts = slice_range l.tokens from to in
    form_is c.args.templates.now c.args.names.now c.args.scope.now c.args.query l ts Quote c.args.form c.in-Quote.is
    ∙ constant_is c.args.names.now c.constant.new.names c.args.scope.now c.word.result.now (text_of l (first_of ts)) c.in_ok-constant-in-Quote.field-0
    (c.word.ensures ∙ ap (text_of l) (sym (first_is l from to c.requires.tokens.some c.requires.tokens.within)))
    c.in_ok-constant-in-Quote.ensures.exact c.in_ok-constant-in-Quote.ensures.names

pub returns-in-A-clause-exact : goal.returns-in-A-clause-exact
returns-in-A-clause-exact c =
    let l = c.args.layout.now in
    let from = c.args.tokens.from in
    let to = c.args.tokens.to in
    let ts = slice_range l.tokens from to in
    let us = c.args.templates.now in
    let names = c.args.names.now in
    let scope = c.args.scope.now in
    let view : Term → Found Tree = λ t. record { value = t; names = names; scope = c.introduced.new.scope } in
    gives_as view c.introduced.result (by_simple_form us names scope c.args.query l ts (Some c.args.form)) (introducing names scope (first_of ts) (phrase_name l (drop 1 ts)))
    (form_is us names scope c.args.query l ts A c.args.form c.in-A.is) (c.introduced.ensures.exact names)

pub returns-then-query-clause-exact : goal.returns-then-query-clause-exact
returns-then-query-clause-exact c =
    let l = c.args.layout.now in
    let from = c.args.tokens.from in
    let to = c.args.tokens.to in
    let ts = slice_range l.tokens from to in
    let us = c.args.templates.now in
    let names = c.args.names.now in
    let scope = c.args.scope.now in
    let view : Term → Found Tree = λ t. record { value = t; names = names; scope = c.asked.new.scope } in
    gives_as view c.asked.result (by_simple_form us names scope c.args.query l ts (Some c.args.form)) (asking names scope (first_of ts) (phrase_name l (drop 1 ts)))
    (form_is us names scope c.args.query l ts Which c.args.form c.in-Which.is ∙ ap (λ b. by_simple_form us names scope b l ts (Some Which)) c.if-query.true) (c.asked.ensures.exact names)

pub returns-else-query-clause-exact : goal.returns-else-query-clause-exact
returns-else-query-clause-exact c =
    let l = c.args.layout.now in
    let from = c.args.tokens.from in
    let to = c.args.tokens.to in
    let ts = slice_range l.tokens from to in
    let us = c.args.templates.now in
    let names = c.args.names.now in
    let scope = c.args.scope.now in
    let first = first_of ts in
    let view : Term → Found Tree = λ t. record { value = t; names = names; scope = scope } in
    gives_refused view c.refused.result (refusal_at WhichHere first.line first.column) (by_simple_form us names scope c.args.query l ts (Some c.args.form)) c.refused.ensures
    (form_is us names scope c.args.query l ts Which c.args.form c.in-Which.is ∙ ap (λ b. by_simple_form us names scope b l ts (Some Which)) c.if-query.false)

pub returns-in-The-clause-exact : goal.returns-in-The-clause-exact
returns-in-The-clause-exact c =
    let l = c.args.layout.now in
    let from = c.args.tokens.from in
    let to = c.args.tokens.to in
    let ts = slice_range l.tokens from to in
    let us = c.args.templates.now in
    let names = c.args.names.now in
    let scope = c.args.scope.now in
    let name = phrase_name l (drop 1 ts) in
    let view : Term → Found Tree = λ t. record { value = t; names = c.referred.new.names; scope = scope } in
    gives_as view c.referred.result (by_simple_form us names scope c.args.query l ts (Some c.args.form)) (by_place us names scope (first_of ts) (text_of l (last_of ts)) name (place_of scope name))
    (form_is us names scope c.args.query l ts The c.args.form c.in-The.is) c.referred.ensures.exact

pub returns-in-Constant-clause-exact : goal.returns-in-Constant-clause-exact
returns-in-Constant-clause-exact c =
    let l = c.args.layout.now in
    let from = c.args.tokens.from in
    let to = c.args.tokens.to in
    let ts = slice_range l.tokens from to in
    let us = c.args.templates.now in
    let names = c.args.names.now in
    let scope = c.args.scope.now in
    let view : Term → Found Tree = λ t. record { value = t; names = c.named.new.names; scope = scope } in
    gives_as view c.named.result (by_simple_form us names scope c.args.query l ts (Some c.args.form)) (constant_found names scope (phrase_name l ts))
    (form_is us names scope c.args.query l ts Constant c.args.form c.in-Constant.is) (c.named.ensures.exact scope)

pub returns-in-List-clause-exact : goal.returns-in-List-clause-exact
returns-in-List-clause-exact c =
    let l = c.args.layout.now in
    let from = c.args.tokens.from in
    let to = c.args.tokens.to in
    let ts = slice_range l.tokens from to in
    let us = c.args.templates.now in
    let names = c.args.names.now in
    let scope = c.args.scope.now in
    let first = first_of ts in
    let view : Term → Found Tree = λ t. record { value = t; names = names; scope = scope } in
    gives_refused view c.refused-in-List.result (refusal_at NoReading first.line first.column) (by_simple_form us names scope c.args.query l ts (Some c.args.form)) c.refused-in-List.ensures
    (form_is us names scope c.args.query l ts ListForm c.args.form c.in-List.is)
