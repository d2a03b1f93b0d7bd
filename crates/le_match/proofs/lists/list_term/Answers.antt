use Rattle.std.proofs.Common.{◌≡◌, ◌-◌, Ok, length, map, ap, sym, ◌∙◌, arith}
use Rattle.std.proofs.lemmas.Result.{err_from_is_err_and}
use Rattle.le_layout.specs.Words.{tokens_of}
use Rattle.le_scope.specs.Parts.{parts_of_list, term_count}
use Rattle.le_scope.proofs.PartLemmas.{list_parts_term}
use Rattle.le_match.specs.Terms.{member, members, symbols_of, tree_found}
use Rattle.le_match.proofs.ReadLemmas.{handed_on}
use Rattle.le_match.proofs.ListLemmas.{terms_are, term_is, parts_of_span, parts_few, longer_by}
use Rattle.le_match.proofs.lists.list_term.Goals as goal

pub symbols-requires-clause-few : goal.symbols-requires-clause-few
symbols-requires-clause-few c =
    let few = parts_few c.args.layout.now c.args.tokens in
    let size : length c.deref.result.now ≡ length (parts_of_list c.args.layout.now c.args.tokens) = ap length (c.deref.ensures.value ∙ c.in_ok-parts.ensures.parts) in
    omega (arith, few, size, c.requires.few)

pub returns-in_err-found-clause-exact : goal.returns-in_err-found-clause-exact
returns-in_err-found-clause-exact c =
    let l = c.args.layout.now in
    let us = c.args.templates.now in
    let names = c.args.names.now in
    let scope = c.args.scope.now in
    let q = c.args.query in
    let same : map (member l.tokens) c.deref.result.now ≡ members (tokens_of l c.args.tokens) = ap (map (member l.tokens)) (c.deref.ensures.value ∙ c.in_ok-parts.ensures.parts) ∙ parts_of_span l c.args.tokens in
    let p = err_from_is_err_and c.from_residual-in_err-found.result c.from_residual-in_err-found.ensures.1 in
    rw (p.1, p.2) (handed_on (symbols_of us names scope q l (map (member l.tokens) c.deref.result.now)) (tree_found (symbols_of us names scope q l (members (tokens_of l c.args.tokens)))) c.in_err-found.field-0.0 c.in_err-found.ensures.exact
    (λ r h. ap (λ ms. tree_found (symbols_of us names scope q l ms)) (sym same) ∙ ap tree_found h))

pub returns-in_err-found-clause-names : goal.returns-in_err-found-clause-names
returns-in_err-found-clause-names c =
    let few = parts_few c.args.layout.now c.args.tokens in
    let size : length c.deref.result.now ≡ length (parts_of_list c.args.layout.now c.args.tokens) = ap length (c.deref.ensures.value ∙ c.in_ok-parts.ensures.parts) in
    longer_by (length c.deref.result.now) (c.args.tokens.to - c.args.tokens.from) c.args.names.now c.symbols.new.names (omega (arith, few, size)) c.symbols.ensures.names

pub from_syms-requires : goal.from_syms-requires
from_syms-requires c =
    let parts = c.deref.result.now in
    term_is c.in_ok-found.found.items (terms_are parts c.in_ok-found.found.items 1 c.in_ok-found.ensures.spelled
    (ap term_count (c.deref.ensures.value ∙ c.in_ok-parts.ensures.parts) ∙ list_parts_term c.args.layout.now c.args.tokens c.requires.list))

pub returns-clause-exact : goal.returns-clause-exact
returns-clause-exact c =
    let l = c.args.layout.now in
    let us = c.args.templates.now in
    let names = c.args.names.now in
    let scope = c.args.scope.now in
    let same : map (member l.tokens) c.deref.result.now ≡ members (tokens_of l c.args.tokens) = ap (map (member l.tokens)) (c.deref.ensures.value ∙ c.in_ok-parts.ensures.parts) ∙ parts_of_span l c.args.tokens in
    ap (λ ms. tree_found (symbols_of us names scope c.args.query l ms)) (sym same) ∙ ap tree_found c.in_ok-found.ensures.exact
    ∙ ap (λ t. Ok (record { value = t; names = c.symbols.new.names; scope = c.symbols.new.scope })) (sym c.from_syms.ensures.term)

pub returns-clause-names : goal.returns-clause-names
returns-clause-names c =
    let few = parts_few c.args.layout.now c.args.tokens in
    let size : length c.deref.result.now ≡ length (parts_of_list c.args.layout.now c.args.tokens) = ap length (c.deref.ensures.value ∙ c.in_ok-parts.ensures.parts) in
    longer_by (length c.deref.result.now) (c.args.tokens.to - c.args.tokens.from) c.args.names.now c.symbols.new.names (omega (arith, few, size)) c.symbols.ensures.names
