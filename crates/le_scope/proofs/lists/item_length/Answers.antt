use Rattle.std.proofs.Common.{◌≡◌, ◌∙◌, true, false, sym, ap}
use Rattle.std.proofs.lemmas.Bool.{cond-true, cond-false}
use Rattle.le_layout.specs.Words.{token_of}
use Rattle.le_scope.specs.Lengths.{is_length}
use Rattle.le_scope.specs.Lists.{is_open}
use Rattle.le_scope.proofs.RowLemmas.{open_row, closed_row}
use Rattle.le_scope.proofs.lists.item_length.Goals as goal

pub returns-then-is_open : goal.returns-then-is_open
returns-then-is_open c =
    let o : is_open (token_of c.args.layout.now c.args.at).kind ≡ true = sym (c.is_open.ensures ∙ ap (λ t. is_open t.kind) c.token.ensures) ∙ c.if-is_open.true in
    c.list_length.ensures ∙ open_row c.args.layout.now c.args.at c.args.to c.requires.ordered c.requires.within o

pub returns-then-is_length : goal.returns-then-is_length
returns-then-is_length c =
    let o : is_open (token_of c.args.layout.now c.args.at).kind ≡ false = sym (c.is_open.ensures ∙ ap (λ t. is_open t.kind) c.token.ensures) ∙ c.if-is_open.false in
    sym (cond-true (is_length c.args.simple c.args.count) c.args.count 0 (sym c.is_length.ensures ∙ c.if-is_length.true))
    ∙ closed_row c.args.layout.now c.args.at c.args.to c.args.count c.args.simple c.requires.ordered c.requires.within o c.requires.simple c.requires.count

pub returns-else-is_length : goal.returns-else-is_length
returns-else-is_length c =
    let o : is_open (token_of c.args.layout.now c.args.at).kind ≡ false = sym (c.is_open.ensures ∙ ap (λ t. is_open t.kind) c.token.ensures) ∙ c.if-is_open.false in
    sym (cond-false (is_length c.args.simple c.args.count) c.args.count 0 (sym c.is_length.ensures ∙ c.if-is_length.false))
    ∙ closed_row c.args.layout.now c.args.at c.args.to c.args.count c.args.simple c.requires.ordered c.requires.within o c.requires.simple c.requires.count
