use Rattle.std.proofs.Common.{◌∙◌, ap, arith}
use Rattle.le_scope.specs.Lists.{items_length}
use Rattle.le_scope.proofs.RowLemmas.{row_past, row_inside, after_items, after_last}
use Rattle.le_scope.proofs.lists.row_at.Goals as goal

pub returns-then-to-at : goal.returns-then-to-at
returns-then-to-at c =
    c.phrase_alone-then-to-at.ensures
    ∙ row_past c.args.layout.now c.args.at c.args.to c.item_length-phrase.result c.requires.ordered c.requires.within c.if-to-at.true c.item_length-phrase.ensures

pub items_length-requires-clause-items : goal.items_length-requires-clause-items
items_length-requires-clause-items c =
    omega (arith, c.ranges.to.fits, after_items c.args.layout.now c.args.at c.args.to c.item_length-phrase.result c.row_after-after.result c.args.rows.now c.requires.within c.if-to-at.false c.requires.rows c.row_after-after.ensures)

pub items_length-requires-clause-last : goal.items_length-requires-clause-last
items_length-requires-clause-last c =
    omega (arith, c.ranges.to.fits, after_last c.args.layout.now c.args.at c.args.to c.item_length-phrase.result c.row_after-after.result c.args.rows.now c.requires.within c.if-to-at.false c.requires.rows c.row_after-after.ensures)

pub returns : goal.returns
returns c =
    let n = c.item_length-phrase.result in
    ap (λ k. record { phrase = n; items = k; last = c.last_length.result }) c.items_length.ensures
    ∙ ap (λ k. record { phrase = n; items = items_length n c.token-next.result.kind c.row_after-after.result; last = k }) c.last_length.ensures
    ∙ row_inside c.args.layout.now c.args.at c.args.to n c.token-next.result.kind c.row_after-after.result c.args.rows.now c.requires.ordered c.requires.within c.if-to-at.false c.if-phrase-eq0.false c.item_length-phrase.ensures (ap (λ t. t.kind) c.token-next.ensures) c.requires.rows c.row_after-after.ensures
