use Rattle.std.proofs.Common.{◌∙◌, sym, ap, cond, None, refl}
use Rattle.le_layout.specs.Words.{token_of}
use Rattle.le_scope.specs.Phrases.{article}
use Rattle.le_scope.proofs.TokenLemmas.{article_at}
use Rattle.le_scope.proofs.phrase.article_form.Goals as goal

pub returns-then-not-is_name-clause-form : goal.returns-then-not-is_name-clause-form
returns-then-not-is_name-clause-form c =
    let form = article c.args.layout.now (token_of c.args.layout.now c.args.tokens.from) in
    sym (ap (λ b. cond b form None) c.if-not-is_name.true)
    ∙ article_at c.args.layout.now c.args.tokens.from c.args.tokens.to c.is_name.result form c.requires.some c.requires.within c.is_name.ensures refl

pub returns-clause-form : goal.returns-clause-form
returns-clause-form c =
    sym (ap (λ b. cond b c.article.result None) c.if-not-is_name.false)
    ∙ article_at c.args.layout.now c.args.tokens.from c.args.tokens.to c.is_name.result c.article.result c.requires.some c.requires.within c.is_name.ensures c.article.ensures.form
