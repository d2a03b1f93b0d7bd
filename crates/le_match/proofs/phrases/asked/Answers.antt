use Rattle.std.proofs.Common.{◌≡◌, drop, slice_range, sym, ap, ◌∙◌}
use Rattle.le_layout.specs.Words.{tokens_of}
use Rattle.le_terms.specs.Tree.{Tree}
use Rattle.le_terms.specs.declared.term.Term.{Term}
use Rattle.le_scope.specs.Phrases.{phrase_name}
use Rattle.le_match.specs.Terms.{Found, first_of, asking, by_introduction}
use Rattle.le_match.proofs.TermLemmas.{behind_is, asking_is, gives_as}
use Rattle.le_match.proofs.phrases.asked.Goals as goal

pub returns-clause-exact : goal.returns-clause-exact
returns-clause-exact c =
    let l = c.args.layout.now in
    let from = c.args.tokens.from in
    let to = c.args.tokens.to in
    let name = c.as_str.result.now in
    let first = first_of (slice_range l.tokens from to) in
    let same = phrase_name l (drop 1 (slice_range l.tokens from to)) in
    let after = c.ask.new.self in
    let named : name ≡ same =
    c.as_str.ensures ∙ c.in_ok-name.ensures ∙ ap (λ s. phrase_name l (tokens_of l s)) c.after_article.ensures ∙ ap (phrase_name l) (sym (behind_is l from to c.requires.tokens.some)) in
    λ names.
    let view : Term → Found Tree = λ t. record { value = t; names = names; scope = after } in
    gives_as view c.answered.result (asking names c.args.scope.now first same) (by_introduction names after first c.in_ok-intro.intro)
    (asking_is names c.args.scope.now after first name same c.in_ok-intro.intro named c.in_ok-intro.ensures.answer c.in_ok-intro.ensures.scope)
    (c.answered.ensures.exact names after)
