use Rattle.std.proofs.Common.{◌≡◌, ◌+◌, true, false, sym, ap, ◌∙◌, refl, arith}
use Rattle.std.proofs.lemmas.Bool.{cond-true, cond-false}
use Rattle.le_layout.specs.Words.{token_of}
use Rattle.le_scope.specs.Lists.{ends_item, until_end}
use Rattle.le_scope.proofs.TokenLemmas.{span}
use Rattle.le_scope.proofs.RowLemmas.{until_step}
use Rattle.le_scope.proofs.parts.item_end.Goals as goal

pub returns-then-ends_item : goal.returns-then-ends_item
returns-then-ends_item c =
    let l = c.args.layout.now in
    let at = c.loop-at.at in
    let rest = until_end (span l (at + 1) c.args.to) in
    let ends : ends_item (token_of l at).kind ≡ true = sym (c.ends_item.ensures ∙ ap (λ t. ends_item t.kind) c.token.ensures) ∙ c.if-ends_item.true in
    let here = sym (cond-true (ends_item (token_of l at).kind) 0 (rest + 1) ends) ∙ until_step l at c.args.to rest c.loop-at-test.true c.requires.within refl in
    let all = c.loop-at.invariant in
    omega (arith, here, all)

pub loop-at-preserved : goal.loop-at-preserved
loop-at-preserved c =
    let l = c.args.layout.now in
    let at = c.loop-at.at in
    let rest = until_end (span l (at + 1) c.args.to) in
    let ends : ends_item (token_of l at).kind ≡ false = sym (c.ends_item.ensures ∙ ap (λ t. ends_item t.kind) c.token.ensures) ∙ c.if-ends_item.false in
    let here = sym (cond-false (ends_item (token_of l at).kind) 0 (rest + 1) ends) ∙ until_step l at c.args.to rest c.loop-at-test.true c.requires.within refl in
    let all = c.loop-at.invariant in
    omega (arith, here, all)
