use Rattle.le_layout.proofs.ValueLemmas.{number_word_text, date_word_text}
use Rattle.le_layout.proofs.laws.values_are_words.Goals as goal

pub returns-clause-number : goal.returns-clause-number
returns-clause-number c = number_word_text

pub returns-clause-date : goal.returns-clause-date
returns-clause-date c = date_word_text
