use Rattle.std.proofs.Common.{◌∙◌, ◌<◌, ◌-◌, sym, ap, arith}
use Rattle.le_layout.specs.declared.token.Token.{Token}
use Rattle.le_layout.specs.Words.{is_star, is_word}
use Rattle.le_templates.proofs.FormLemmas.{inside_first, inside_end, inside_star, inside_word, inside_other, chosen_true, chosen_false}
use Rattle.le_templates.proofs.form.slot_end.Goals as goal

pub returns-then-is_phrase_len : goal.returns-then-is_phrase_len
returns-then-is_phrase_len c =
    let star = ap (λ (t : Token). is_star t.kind) (sym c.token-kind.ensures) ∙ sym c.is_star.ensures ∙ c.if-is_star.true in
    let some : 0 < c.loop-end.end - c.args.from = c.is_phrase_len.ensures.some c.if-is_phrase_len.true in (
      omega (arith, some),
      c.loop-end-test.true,
      chosen_true c.is_phrase_len.result _ _ _ (inside_star c.args.layout.now c.args.from c.loop-end.end c.args.to c.is_phrase_len.result c.loop-end-test.true c.requires.within star c.is_phrase_len.ensures.test c.loop-end.invariant) c.if-is_phrase_len.true,
    )

pub returns-else-is_phrase_len : goal.returns-else-is_phrase_len
returns-else-is_phrase_len c =
    let star = ap (λ (t : Token). is_star t.kind) (sym c.token-kind.ensures) ∙ sym c.is_star.ensures ∙ c.if-is_star.true in
    chosen_false c.is_phrase_len.result _ _ _ (inside_star c.args.layout.now c.args.from c.loop-end.end c.args.to c.is_phrase_len.result c.loop-end-test.true c.requires.within star c.is_phrase_len.ensures.test c.loop-end.invariant) c.if-is_phrase_len.false

pub returns-then-not-is_word : goal.returns-then-not-is_word
returns-then-not-is_word c =
    let star = ap (λ (t : Token). is_star t.kind) (sym c.token-kind.ensures) ∙ sym c.is_star.ensures ∙ c.if-is_star.false in
    let word = ap (λ (t : Token). is_word t.kind) (sym c.token-kind.ensures) ∙ sym c.is_word.ensures ∙ c.if-not-is_word.true in
    inside_other c.args.layout.now c.args.from c.loop-end.end c.args.to c.loop-end-test.true c.requires.within star word c.loop-end.invariant

pub loop-end-preserved : goal.loop-end-preserved
loop-end-preserved c =
    let star = ap (λ (t : Token). is_star t.kind) (sym c.token-kind.ensures) ∙ sym c.is_star.ensures ∙ c.if-is_star.false in
    let word = ap (λ (t : Token). is_word t.kind) (sym c.token-kind.ensures) ∙ sym c.is_word.ensures ∙ c.if-not-is_word.false in
    inside_word c.args.layout.now c.args.from c.loop-end.end c.args.to c.loop-end.auto.end c.loop-end-test.true c.requires.within star word c.loop-end.invariant

pub loop-end-init : goal.loop-end-init
loop-end-init c = inside_first c.args.layout.now c.args.from c.args.to

pub returns : goal.returns
returns c = inside_end c.args.layout.now c.args.from c.loop-end.end c.args.to c.loop-end-test.false c.loop-end.invariant
