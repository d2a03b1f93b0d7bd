use Rattle.std.proofs.Common.{◌≡◌, ℕ, ◌∙◌, ◌-◌, ◌==◌, ◌<◌, ◌≤◌, Some, None, List, length, get_or, true, false, sym, ap, cond, arith}
use Rattle.std.proofs.lemmas.Bool.{cond-true, cond-false, eq-eqb, ne_eqb}
use Rattle.le_layout.specs.declared.layout.Layout.{Layout}
use Rattle.le_scope.specs.declared.lengths.PhraseLengths.{PhraseLengths}
use Rattle.le_scope.specs.declared.phrase.PhraseForm.TheVariants.{List as ListForm}
use Rattle.le_scope.specs.Lengths.{lengths_from}
use Rattle.le_scope.specs.Phrases.{phrase_form}
use Rattle.le_scope.proofs.TokenLemmas.{span}
use Rattle.le_layout.specs.Words.{token_of}
use Rattle.le_scope.specs.Lists.{is_open}
use Rattle.le_scope.proofs.RowLemmas.{empty_form, span_closed, span_open, found_some}
use Rattle.le_scope.proofs.phrase.shape.Goals as goal

pub returns-then-tokens-clause-form : goal.returns-then-tokens-clause-form
returns-then-tokens-clause-form c = empty_form c.args.layout.now c.args.tokens.from c.args.tokens.to c.if-tokens.true

pub returns-then-not-is_open-clause-form : goal.returns-then-not-is_open-clause-form
returns-then-not-is_open-clause-form c =
    let o : is_open (token_of c.args.layout.now c.args.tokens.from).kind ≡ false = sym (c.is_open.ensures ∙ ap (λ t. is_open t.kind) c.token.ensures) ∙ c.if-not-is_open.true in
    c.form_of.ensures.form ∙ span_closed c.args.layout.now c.args.tokens.from c.args.tokens.to c.if-tokens.false c.requires.tokens.within o

pub index-requires : goal.index-requires
index-requires c = omega (arith, c.in_ok-lengths.lengths.ok, found_some c.args.layout.now c.args.tokens.from c.args.tokens.to c.in_ok-lengths.lengths.items c.if-tokens.false c.requires.tokens.within c.in_ok-lengths.ensures)

-- the form by the greatest length at the first token
by_most : (l : Layout) (from to : ℕ) (found : List PhraseLengths) (first : PhraseLengths) → from < to → to ≤ length l.tokens → is_open (token_of l from).kind ≡ true → found ≡ lengths_from l (span l from to) → first ≡ get_or found 0 first → phrase_form l (span l from to) ≡ cond (first.most == to - from) (Some ListForm) None
by_most l from to found first low high o e f =
    span_open l from to found first low high o e ∙ ap (λ (x : PhraseLengths). cond (x.most == to - from) (Some ListForm) None) (sym f)

pub returns-then-index-tokens-clause-form : goal.returns-then-index-tokens-clause-form
returns-then-index-tokens-clause-form c =
    let o : is_open (token_of c.args.layout.now c.args.tokens.from).kind ≡ true = sym (c.is_open.ensures ∙ ap (λ t. is_open t.kind) c.token.ensures) ∙ c.if-not-is_open.false in
    let count = c.args.tokens.to - c.args.tokens.from in
    let first = c.index.result.now in
    sym (by_most c.args.layout.now c.args.tokens.from c.args.tokens.to c.in_ok-lengths.lengths.items first c.if-tokens.false c.requires.tokens.within o c.in_ok-lengths.ensures c.index.ensures
    ∙ cond-true (first.most == count) (Some ListForm) None (eq-eqb first.most count c.if-index-tokens.true))

pub returns-clause-form : goal.returns-clause-form
returns-clause-form c =
    let o : is_open (token_of c.args.layout.now c.args.tokens.from).kind ≡ true = sym (c.is_open.ensures ∙ ap (λ t. is_open t.kind) c.token.ensures) ∙ c.if-not-is_open.false in
    let count = c.args.tokens.to - c.args.tokens.from in
    let first = c.index.result.now in
    sym (by_most c.args.layout.now c.args.tokens.from c.args.tokens.to c.in_ok-lengths.lengths.items first c.if-tokens.false c.requires.tokens.within o c.in_ok-lengths.ensures c.index.ensures
    ∙ cond-false (first.most == count) (Some ListForm) None (ne_eqb first.most count c.if-index-tokens.false))
