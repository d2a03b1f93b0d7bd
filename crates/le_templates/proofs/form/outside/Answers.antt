use Rattle.std.proofs.Common.{◌∙◌, sym, ap, arith, List}
use Rattle.le_layout.specs.declared.token.Token.{Token}
use Rattle.le_templates.specs.declared.part.Part.{Part}
use Rattle.le_layout.specs.Words.{is_star, is_word}
use Rattle.le_templates.proofs.FormLemmas.{walked, walk_first, walk_end, walk_word, walk_other, walk_open, walk_slot}
use Rattle.le_templates.proofs.form.outside.Goals as goal

pub loop-at-init : goal.loop-at-init
loop-at-init c = (
  omega arith,
  c.requires.ordered,
  ap (λ (ps : List Part). walked c.args.layout.now ps c.args.span.from c.args.span.to) c.new-parts.ensures.items ∙ walk_first c.args.layout.now c.args.span.from c.args.span.to,
)

pub loop-at-preserved-then-is_word : goal.loop-at-preserved-then-is_word
loop-at-preserved-then-is_word c =
    let word = ap (λ (t : Token). is_word t.kind) (sym c.token-kind.ensures) ∙ sym c.is_word.ensures ∙ c.if-is_word.true in (
      omega arith,
      omega arith,
      walk_word c.args.layout.now c.loop-at.parts.items _ c.in_ok-of.field-0 c.loop-at.at c.args.span.to c.loop-at-test.true c.requires.within word (c.in_ok-of.ensures ∙ c.word.ensures) c.in_ok-push.ensures.items ∙ c.loop-at.invariant.2,
    )

pub returns-in_default : goal.returns-in_default
returns-in_default c =
    let word = ap (λ (t : Token). is_word t.kind) (sym c.token-kind.ensures) ∙ sym c.is_word.ensures ∙ c.if-is_word.false in
    let star = ap (λ (t : Token). is_star t.kind) (sym c.token-kind.ensures) ∙ sym c.is_star.ensures ∙ c.if-is_star.true in
    sym (walk_open c.args.layout.now c.loop-at.parts.items c.loop-at.at c.args.span.to c.loop-at-test.true c.requires.within word star c.in_default.ensures) ∙ c.loop-at.invariant.2

pub returns-else-is_star : goal.returns-else-is_star
returns-else-is_star c =
    let word = ap (λ (t : Token). is_word t.kind) (sym c.token-kind.ensures) ∙ sym c.is_word.ensures ∙ c.if-is_word.false in
    let star = ap (λ (t : Token). is_star t.kind) (sym c.token-kind.ensures) ∙ sym c.is_star.ensures ∙ c.if-is_star.false in
    sym (walk_other c.args.layout.now c.loop-at.parts.items c.loop-at.at c.args.span.to c.loop-at-test.true c.requires.within word star) ∙ c.loop-at.invariant.2

pub loop-at-preserved : goal.loop-at-preserved
loop-at-preserved c =
    let word = ap (λ (t : Token). is_word t.kind) (sym c.token-kind.ensures) ∙ sym c.is_word.ensures ∙ c.if-is_word.false in
    let star = ap (λ (t : Token). is_star t.kind) (sym c.token-kind.ensures) ∙ sym c.is_star.ensures ∙ c.if-is_star.true in
    let closes = c.in-Some.ensures in (
      omega (arith, closes.0),
      omega (arith, closes.1),
      walk_slot c.args.layout.now c.loop-at.parts.items _ c.in_ok-spaced.field-0 c.loop-at.at c.in-Some.end c.args.span.to c.loop-at-test.true c.requires.within word star closes.2 c.in_ok-spaced.ensures c.in_ok-push-2.ensures.items ∙ c.loop-at.invariant.2,
    )

pub returns : goal.returns
returns c = sym (walk_end c.args.layout.now c.loop-at.parts.items c.loop-at.at c.args.span.to c.loop-at-test.false) ∙ c.loop-at.invariant.2
