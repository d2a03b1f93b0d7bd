use Rattle.std.proofs.Common.{◌≡◌, ◌+◌, ◌≤◌, ◌<◌, ◌∙◌, ◌∷◌, [], true, length, length-append, subst, sym, ap, arith, All, List}
use Rattle.std.proofs.lemmas.List.Elements.{All-append, All-cons}
use Rattle.le_proofs.specs.declared.node.Node.{Node}
use Rattle.le_bundle.specs.Bundle.{answer_words, is_next}
use Rattle.le_bundle.specs.Lines.{Read, lines_of}
use Rattle.le_bundle.specs.Parts.{IsShort}
use Rattle.le_bundle.proofs.ReadLemmas.{answers_more}
use Rattle.le_bundle.proofs.opening.answers.Goals as goal

pub loop-number-preserved : goal.loop-number-preserved
loop-number-preserved c =
    let before = c.loop-number in
    let above = c.skip_answer.new.reader in
    let now = c.derivation.new.reader in
    let d = c.in_ok-derivation.derivation in
    let r : Read (List Node) = record { value = d.nodes; number = now.number; lines = lines_of now.rest.now } in
    let is : is_next (answer_words before.number) (lines_of before.reader.rest.now) ≡ true = sym c.in_ok-skip_answer.ensures.is ∙ c.if-not-branch.false in
    let read = c.in_ok-skip_answer.ensures.read c.if-not-branch.false in
    let more = answers_more before.derivations.items c.args.most before.number before.reader.number above.number (lines_of before.reader.rest.now) (lines_of above.rest.now) r c.loop-number-test.true is read.0 read.1 c.in_ok-derivation.ensures.exact in
    let kept = c.in_ok-keep_derivation.ensures in
    let count : length c.keep_derivation.new.derivations.items + 1 ≡ before.number + 1 = omega (arith, before.invariant.1, ap length kept, length-append before.derivations.items (d ∷ [])) in
    let short : length d.nodes ≤ 60000000 = omega (arith, c.in_ok-derivation.ensures.short, above.fits) in
    let last : All IsShort (d ∷ []) = All-cons IsShort d [] short (λ k e (low : k < 0). absurd (omega (arith, low))) in
    (rw kept (more ∙ before.invariant.0), count, omega (arith, c.loop-number-test.true), subst (All IsShort) (sym kept) (All-append IsShort before.derivations.items (d ∷ []) before.invariant.3 last))
