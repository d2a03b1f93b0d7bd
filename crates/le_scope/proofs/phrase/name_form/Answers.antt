use Rattle.std.proofs.Common.{◌≡◌, ◌∙◌, ◌-◌, sym, length}
use Rattle.le_layout.specs.Words.{tokens_of}
use Rattle.le_scope.proofs.TokenLemmas.{name_other, length_span}
use Rattle.le_scope.proofs.phrase.name_form.Goals as goal

pub returns-then-tokens-ne1-clause-form : goal.returns-then-tokens-ne1-clause-form
returns-then-tokens-ne1-clause-form c =
    let count : length (tokens_of c.args.layout.now c.args.tokens) ≡ c.args.tokens.to - c.args.tokens.from = length_span c.args.layout.now c.args.tokens.from c.args.tokens.to c.requires.within in
    name_other c.args.layout.now (tokens_of c.args.layout.now c.args.tokens) (λ (one : length (tokens_of c.args.layout.now c.args.tokens) ≡ 1). c.if-tokens-ne1.true (sym count ∙ one))
