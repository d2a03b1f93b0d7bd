use Rattle.std.proofs.Common.{◌≡◌, ◌<◌, ◌∙◌, true, false, sym, ap, arith}
use Rattle.std.proofs.lemmas.Bool.{cond-true, cond-false}
use Rattle.le_layout.specs.Words.{token_of}
use Rattle.le_scope.specs.Lists.{is_close, onto, at, rows_of}
use Rattle.le_scope.proofs.TokenLemmas.{span}
use Rattle.le_scope.proofs.RowLemmas.{list_step, items_bound}
use Rattle.le_scope.proofs.lists.list_length.Goals as goal

pub returns-then-is_close : goal.returns-then-is_close
returns-then-is_close c =
    let l = c.args.layout.now in
    let rows = rows_of l (span l c.args.at c.args.to) in
    let low : c.args.at < c.args.to = omega (arith, c.requires.ordered, c.if-at-to.false) in
    let k : is_close (token_of l c.args.at).kind ≡ true = sym (c.is_close.ensures ∙ ap (λ t. is_close t.kind) c.token.ensures) ∙ c.if-is_close.true in
    sym (list_step l c.args.at c.args.to rows low c.requires.within ∙ cond-true (is_close (token_of l c.args.at).kind) 2 (onto 1 (at rows 0).items) k)

pub onto-requires : goal.onto-requires
onto-requires c =
    omega (arith, c.ranges.to.fits, c.requires.inside, c.requires.ordered, items_bound c.args.layout.now c.args.at c.args.to c.args.items c.requires.within c.requires.items)

pub returns : goal.returns
returns c =
    let l = c.args.layout.now in
    let rows = rows_of l (span l c.args.at c.args.to) in
    let low : c.args.at < c.args.to = omega (arith, c.requires.ordered, c.if-at-to.false) in
    let k : is_close (token_of l c.args.at).kind ≡ false = sym (c.is_close.ensures ∙ ap (λ t. is_close t.kind) c.token.ensures) ∙ c.if-is_close.false in
    c.onto.ensures ∙ ap (onto 1) c.requires.items
    ∙ sym (list_step l c.args.at c.args.to rows low c.requires.within ∙ cond-false (is_close (token_of l c.args.at).kind) 2 (onto 1 (at rows 0).items) k)
