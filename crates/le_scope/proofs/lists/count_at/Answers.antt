use Rattle.std.proofs.Common.{◌∙◌, ◌+◌, sym, ap, arith}
use Rattle.std.proofs.lemmas.Bool.{cond-true, cond-false}
use Rattle.le_layout.specs.Words.{token_of}
use Rattle.le_scope.specs.Lists.{ends_item}
use Rattle.le_scope.proofs.RowLemmas.{until_step, until_bound}
use Rattle.le_scope.proofs.lists.count_at.Goals as goal

pub overflow_add-result : goal.overflow_add-result
overflow_add-result c = omega (arith, c.ranges.to.fits, c.requires.ordered, until_bound c.args.layout.now (c.args.at + 1) c.args.to c.args.count c.requires.within c.requires.count)

pub returns-then-ends_item : goal.returns-then-ends_item
returns-then-ends_item c =
    sym (cond-true (ends_item (token_of c.args.layout.now c.args.at).kind) 0 (c.args.count + 1) (sym (c.ends_item.ensures ∙ ap (λ t. ends_item t.kind) c.token.ensures) ∙ c.if-ends_item.true))
    ∙ until_step c.args.layout.now c.args.at c.args.to c.args.count c.requires.ordered c.requires.within c.requires.count

pub returns-else-ends_item : goal.returns-else-ends_item
returns-else-ends_item c =
    sym (cond-false (ends_item (token_of c.args.layout.now c.args.at).kind) 0 (c.args.count + 1) (sym (c.ends_item.ensures ∙ ap (λ t. ends_item t.kind) c.token.ensures) ∙ c.if-ends_item.false))
    ∙ until_step c.args.layout.now c.args.at c.args.to c.args.count c.requires.ordered c.requires.within c.requires.count
