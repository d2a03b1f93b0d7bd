use Rattle.std.proofs.Common.{◌≡◌, ◌++◌, codes, drop, slice_range, sym, ap, ◌∙◌}
use Rattle.le_base.specs.declared.code.Code.TheVariants.{Dangling}
use Rattle.le_base.specs.Stop.{refusal_at}
use Rattle.le_layout.specs.Words.{tokens_of, text_of}
use Rattle.le_templates.specs.Table.{ends_slot}
use Rattle.le_terms.specs.Tree.{Tree}
use Rattle.le_terms.specs.declared.term.Term.{Term}
use Rattle.le_scope.specs.Phrases.{phrase_name}
use Rattle.le_scope.specs.Scopes.{place_of}
use Rattle.le_match.specs.Terms.{Found, first_of, last_of, by_place}
use Rattle.le_match.proofs.TermLemmas.{behind_is, last_is, there_is, dangles, the_is, gives_refused}
use Rattle.le_match.proofs.phrases.referred.Goals as goal

pub returns-in-Some-clause-exact : goal.returns-in-Some-clause-exact
returns-in-Some-clause-exact c =
    let l = c.args.layout.now in
    let from = c.args.tokens.from in
    let to = c.args.tokens.to in
    let name = c.as_str.result.now in
    let same = phrase_name l (drop 1 (slice_range l.tokens from to)) in
    let named : name ≡ same =
    c.as_str.ensures ∙ c.in_ok-name.ensures ∙ ap (λ s. phrase_name l (tokens_of l s)) c.after_article.ensures ∙ ap (phrase_name l) (sym (behind_is l from to c.requires.tokens.some)) in
    there_is c.args.templates.now c.args.names.now c.args.scope.now (first_of (slice_range l.tokens from to)) (text_of l (last_of (slice_range l.tokens from to))) name same c.in-Some.n c.in_ok-leaf.field-0 named
    (sym c.refer.ensures ∙ c.in-Some.is) c.in_ok-leaf.ensures.term

pub returns-then-ends_slot-clause-exact : goal.returns-then-ends_slot-clause-exact
returns-then-ends_slot-clause-exact c =
    let l = c.args.layout.now in
    let from = c.args.tokens.from in
    let to = c.args.tokens.to in
    let name = c.as_str.result.now in
    let same = phrase_name l (drop 1 (slice_range l.tokens from to)) in
    let named : name ≡ same =
    c.as_str.ensures ∙ c.in_ok-name.ensures ∙ ap (λ s. phrase_name l (tokens_of l s)) c.after_article.ensures ∙ ap (phrase_name l) (sym (behind_is l from to c.requires.tokens.some)) in
    let first = first_of (slice_range l.tokens from to) in
    let last = text_of l (last_of (slice_range l.tokens from to)) in
    let word : c.word.result.now ≡ last = c.word.ensures ∙ ap (text_of l) (sym (last_is l from to c.requires.tokens.some c.requires.tokens.within)) in
    let view : Term → Found Tree = λ t. record { value = t; names = c.args.names.now; scope = c.args.scope.now } in
    gives_refused view c.refused.result (refusal_at Dangling first.line first.column) (by_place c.args.templates.now c.args.names.now c.args.scope.now first last same (place_of c.args.scope.now same)) c.refused.ensures
    (dangles c.args.templates.now c.args.names.now c.args.scope.now first last name same named (sym c.refer.ensures ∙ c.in_default.is)
    (ap (ends_slot c.args.templates.now) (sym word) ∙ sym c.ends_slot.ensures ∙ c.if-ends_slot.true))

pub returns-clause-exact : goal.returns-clause-exact
returns-clause-exact c =
    let l = c.args.layout.now in
    let from = c.args.tokens.from in
    let to = c.args.tokens.to in
    let name = c.as_str.result.now in
    let same = phrase_name l (drop 1 (slice_range l.tokens from to)) in
    let named : name ≡ same =
    c.as_str.ensures ∙ c.in_ok-name.ensures ∙ ap (λ s. phrase_name l (tokens_of l s)) c.after_article.ensures ∙ ap (phrase_name l) (sym (behind_is l from to c.requires.tokens.some)) in
    let first = first_of (slice_range l.tokens from to) in
    let last = text_of l (last_of (slice_range l.tokens from to)) in
    let word : c.word.result.now ≡ last = c.word.ensures ∙ ap (text_of l) (sym (last_is l from to c.requires.tokens.some c.requires.tokens.within)) in
    the_is c.args.templates.now c.args.names.now c.constant.new.names c.args.scope.now first last name same c.as_str-3.result.now c.in_ok-constant.field-0 named (sym c.refer.ensures ∙ c.in_default.is)
    (ap (ends_slot c.args.templates.now) (sym word) ∙ sym c.ends_slot.ensures ∙ c.if-ends_slot.false)
    (c.as_str-3.ensures ∙ c.in_ok-push_str.ensures.ok ∙ ap (λ t. t ++ c.as_str-2.result.now) c.in_ok-text.ensures ∙ ap (λ t. codes "the " ++ t) (c.as_str-2.ensures ∙ sym c.as_str.ensures))
    c.in_ok-constant.ensures.exact c.in_ok-constant.ensures.names
