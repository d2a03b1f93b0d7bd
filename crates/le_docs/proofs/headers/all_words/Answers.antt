use Rattle.std.proofs.Common.{true, false, sym, ap, ◌∙◌}
use Rattle.le_layout.specs.declared.token.Token.{Token}
use Rattle.le_layout.specs.Words.{is_word}
use Rattle.le_docs.proofs.HeaderLemmas.{all_words_step}
use Rattle.le_docs.proofs.headers.all_words.Goals as goal

pub returns-then-not-is_word : goal.returns-then-not-is_word
returns-then-not-is_word c =
    let e = sym (ap (λ (t : Token). is_word t.kind) c.token.ensures) ∙ sym c.is_word.ensures ∙ c.if-not-is_word.true in
    sym (all_words_step c.args.layout.now c.loop-k.k c.args.to false c.loop-k-test.true c.requires.inside e) ∙ c.loop-k.invariant

pub loop-k-preserved : goal.loop-k-preserved
loop-k-preserved c =
    let e = sym (ap (λ (t : Token). is_word t.kind) c.token.ensures) ∙ sym c.is_word.ensures ∙ c.if-not-is_word.false in
    sym (all_words_step c.args.layout.now c.loop-k.k c.args.to true c.loop-k-test.true c.requires.inside e) ∙ c.loop-k.invariant
