use Rattle.std.proofs.Common.{Some, None, slice_range, sym, ap, ◌∙◌}
use Rattle.le_base.specs.declared.code.Code.TheVariants.{NoReading}
use Rattle.le_base.specs.Stop.{refusal_at}
use Rattle.le_terms.specs.Tree.{Tree}
use Rattle.le_terms.specs.declared.term.Term.{Term}
use Rattle.le_match.specs.Terms.{Found, first_of, simple_term, by_simple_form}
use Rattle.le_match.proofs.TermLemmas.{simple_is, gives_as, gives_refused}
use Rattle.le_match.proofs.phrases.item_term.Goals as goal

pub returns-in_default-clause-exact : goal.returns-in_default-clause-exact
returns-in_default-clause-exact c =
    let l = c.args.layout.now in
    let ts = slice_range l.tokens c.args.tokens.from c.args.tokens.to in
    let us = c.args.templates.now in
    let names = c.args.names.now in
    let scope = c.args.scope.now in
    let first = first_of ts in
    let view : Term → Found Tree = λ t. record { value = t; names = names; scope = scope } in
    gives_refused view c.refused.result (refusal_at NoReading first.line first.column) (simple_term us names scope c.args.query l ts) c.refused.ensures
    (ap (by_simple_form us names scope c.args.query l ts) (simple_is l ts None c.requires.simple (sym c.in_ok-form.ensures.form ∙ c.in_default.is)))

pub returns-clause-exact : goal.returns-clause-exact
returns-clause-exact c =
    let l = c.args.layout.now in
    let ts = slice_range l.tokens c.args.tokens.from c.args.tokens.to in
    let us = c.args.templates.now in
    let names = c.args.names.now in
    let scope = c.args.scope.now in
    let view : Term → Found Tree = λ t. record { value = t; names = c.simple_term.new.names; scope = c.simple_term.new.scope } in
    gives_as view c.simple_term.result (simple_term us names scope c.args.query l ts) (by_simple_form us names scope c.args.query l ts (Some c.in-Some.form))
    (ap (by_simple_form us names scope c.args.query l ts) (simple_is l ts (Some c.in-Some.form) c.requires.simple (sym c.in_ok-form.ensures.form ∙ c.in-Some.is))) c.simple_term.ensures.exact
