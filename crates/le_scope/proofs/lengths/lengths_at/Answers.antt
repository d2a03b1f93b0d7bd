use Rattle.std.proofs.Common.{◌≡◌, ◌∙◌, true, false, sym, ap}
use Rattle.le_layout.specs.Words.{token_of}
use Rattle.le_scope.specs.Lists.{is_open}
use Rattle.le_scope.specs.Lengths.{one_length}
use Rattle.le_scope.proofs.RowLemmas.{lengths_closed, lengths_open, one_some}
use Rattle.le_scope.proofs.lengths.lengths_at.Goals as goal

pub returns-then-not-is_open : goal.returns-then-not-is_open
returns-then-not-is_open c =
    let o : is_open (token_of c.args.layout.now c.args.at).kind ≡ false = sym (c.is_open.ensures ∙ ap (λ t. is_open t.kind) c.token.ensures) ∙ c.if-not-is_open.true in
    c.requires.simple ∙ lengths_closed c.args.layout.now c.args.at c.args.to c.requires.ordered c.requires.within o

pub returns-then-count-eq0 : goal.returns-then-count-eq0
returns-then-count-eq0 c =
    let o : is_open (token_of c.args.layout.now c.args.at).kind ≡ true = sym (c.is_open.ensures ∙ ap (λ t. is_open t.kind) c.token.ensures) ∙ c.if-not-is_open.false in
    c.lengths.ensures ∙ sym (ap one_length c.if-count-eq0.true) ∙ lengths_open c.args.layout.now c.args.at c.args.to c.args.count c.requires.ordered c.requires.within o c.requires.count

pub returns-else-count-eq0 : goal.returns-else-count-eq0
returns-else-count-eq0 c =
    let o : is_open (token_of c.args.layout.now c.args.at).kind ≡ true = sym (c.is_open.ensures ∙ ap (λ t. is_open t.kind) c.token.ensures) ∙ c.if-not-is_open.false in
    c.lengths-else-count-eq0.ensures ∙ one_some c.args.count c.if-count-eq0.false ∙ lengths_open c.args.layout.now c.args.at c.args.to c.args.count c.requires.ordered c.requires.within o c.requires.count
