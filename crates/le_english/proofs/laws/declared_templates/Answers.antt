use Rattle.le_english.proofs.DeclaredLemmas.{one-of-each, words-at, more-declared}
use Rattle.le_english.proofs.laws.declared_templates.Goals as goal

pub returns-clause-more : goal.returns-clause-more
returns-clause-more c = more-declared

pub returns-clause-each : goal.returns-clause-each
returns-clause-each c = one-of-each

pub returns-clause-words : goal.returns-clause-words
returns-clause-words c = λ users pred declared low. words-at users declared pred low
