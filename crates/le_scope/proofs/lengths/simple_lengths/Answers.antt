use Rattle.std.proofs.Common.{◌≡◌, ◌∙◌, ◌+◌, Bool, true, false, sym, ap, cond, min, is_some}
use Rattle.std.proofs.lemmas.Bool.{cond-true, cond-false}
use Rattle.le_layout.specs.Words.{token_of, is_quote}
use Rattle.le_scope.specs.declared.lengths.PhraseLengths.{PhraseLengths}
use Rattle.le_scope.specs.Phrases.{article, is_determiner}
use Rattle.le_scope.specs.Lengths.{plain_run, lengths, most_words}
use Rattle.le_scope.proofs.TokenLemmas.{span}
use Rattle.le_scope.proofs.RunLemmas.{lengths_step}
use Rattle.le_scope.proofs.lengths.simple_lengths.Goals as goal

-- the choice among four by three tests
second : (a b c : Bool) (w x y z : PhraseLengths) → a ≡ false → b ≡ true → cond a w (cond b x (cond c y z)) ≡ x
second a b c w x y z f g = cond-false a w (cond b x (cond c y z)) f ∙ cond-true b x (cond c y z) g

third : (a b c : Bool) (w x y z : PhraseLengths) → a ≡ false → b ≡ false → c ≡ true → cond a w (cond b x (cond c y z)) ≡ y
third a b c w x y z f g h = cond-false a w (cond b x (cond c y z)) f ∙ cond-false b x (cond c y z) g ∙ cond-true c y z h

fourth : (a b c : Bool) (w x y z : PhraseLengths) → a ≡ false → b ≡ false → c ≡ false → cond a w (cond b x (cond c y z)) ≡ z
fourth a b c w x y z f g h = cond-false a w (cond b x (cond c y z)) f ∙ cond-false b x (cond c y z) g ∙ cond-false c y z h

pub returns-then-is_quote : goal.returns-then-is_quote
returns-then-is_quote c =
    let l = c.args.layout.now in
    let t = token_of l c.args.at in
    let q : is_quote t.kind ≡ true = sym (ap (λ x. is_quote x.kind) c.token.ensures) ∙ sym c.is_quote.ensures ∙ c.if-is_quote.true in
    c.lengths.ensures ∙ sym (lengths_step l c.args.at c.args.to c.args.run c.requires.ordered c.requires.within c.requires.run ∙ cond-true (is_quote t.kind) (lengths 1 1) _ q)

pub returns-then-is_some : goal.returns-then-is_some
returns-then-is_some c =
    let l = c.args.layout.now in
    let t = token_of l c.args.at in
    let q : is_quote t.kind ≡ false = sym (ap (λ x. is_quote x.kind) c.token.ensures) ∙ sym c.is_quote.ensures ∙ c.if-is_quote.false in
    let a : is_some (article l t) ≡ true = sym (ap is_some c.article.ensures.form) ∙ sym c.is_some.ensures ∙ c.if-is_some.true in
    c.lengths-then-is_some.ensures ∙ ap (λ n. lengths 2 (n + 1)) c.least_of.ensures
    ∙ sym (lengths_step l c.args.at c.args.to c.args.run c.requires.ordered c.requires.within c.requires.run ∙ second (is_quote t.kind) (is_some (article l t)) (is_determiner l t) (lengths 1 1) (lengths 2 (min 12 c.args.run + 1)) (lengths 1 0) (lengths 1 (min (most_words l (span l c.args.at c.args.to)) (plain_run l (span l c.args.at c.args.to)))) q a)

pub returns-then-is_determiner : goal.returns-then-is_determiner
returns-then-is_determiner c =
    let l = c.args.layout.now in
    let t = token_of l c.args.at in
    let q : is_quote t.kind ≡ false = sym (ap (λ x. is_quote x.kind) c.token.ensures) ∙ sym c.is_quote.ensures ∙ c.if-is_quote.false in
    let a : is_some (article l t) ≡ false = sym (ap is_some c.article.ensures.form) ∙ sym c.is_some.ensures ∙ c.if-is_some.false in
    c.lengths-then-is_determiner.ensures
    ∙ sym (lengths_step l c.args.at c.args.to c.args.run c.requires.ordered c.requires.within c.requires.run ∙ third (is_quote t.kind) (is_some (article l t)) (is_determiner l t) (lengths 1 1) (lengths 2 (min 12 c.args.run + 1)) (lengths 1 0) (lengths 1 (min (most_words l (span l c.args.at c.args.to)) (plain_run l (span l c.args.at c.args.to)))) q a (sym c.is_determiner.ensures ∙ c.if-is_determiner.true))

pub returns : goal.returns
returns c =
    let l = c.args.layout.now in
    let t = token_of l c.args.at in
    let q : is_quote t.kind ≡ false = sym (ap (λ x. is_quote x.kind) c.token.ensures) ∙ sym c.is_quote.ensures ∙ c.if-is_quote.false in
    let a : is_some (article l t) ≡ false = sym (ap is_some c.article.ensures.form) ∙ sym c.is_some.ensures ∙ c.if-is_some.false in
    c.lengths-2.ensures ∙ ap (λ n. lengths 1 n) (c.least_of-2.ensures ∙ ap (λ n. min n c.run_at-words.result) c.most_words.ensures.exact ∙ ap (λ n. min (most_words l (span l c.args.at c.args.to)) n) c.run_at-words.ensures)
    ∙ sym (lengths_step l c.args.at c.args.to c.args.run c.requires.ordered c.requires.within c.requires.run ∙ fourth (is_quote t.kind) (is_some (article l t)) (is_determiner l t) (lengths 1 1) (lengths 2 (min 12 c.args.run + 1)) (lengths 1 0) (lengths 1 (min (most_words l (span l c.args.at c.args.to)) (plain_run l (span l c.args.at c.args.to)))) q a (sym c.is_determiner.ensures ∙ c.if-is_determiner.false))
