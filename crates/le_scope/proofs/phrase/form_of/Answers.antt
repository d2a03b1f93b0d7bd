use Rattle.le_scope.proofs.TokenLemmas.{no_form}
use Rattle.le_scope.proofs.phrase.form_of.Goals as goal

pub returns-then-tokens-clause-form : goal.returns-then-tokens-clause-form
returns-then-tokens-clause-form c = no_form c.args.layout.now c.args.tokens.from c.args.tokens.to c.if-tokens.true
