use Rattle.std.proofs.Common.{◌≡◌, true, false, ◌∙◌, ap, arith}
use Rattle.le_values.specs.Days.{is_date_word, word_year, word_month, word_day}
use Rattle.le_values.proofs.DayLemmas.{date_word, day_of-no_word, day_of-word, word_year-small, word_month-small, word_day-small}
use Rattle.le_values.proofs.day.day_of.Goals as goal

pub returns-then-not-is_date_word-clause-value : goal.returns-then-not-is_date_word-clause-value
returns-then-not-is_date_word-clause-value c =
    let no : is_date_word c.args.word.now ≡ false = grind arith in
    day_of-no_word c.args.word.now no

pub digits_value-day-requires-clause-digits : goal.digits_value-day-requires-clause-digits
digits_value-day-requires-clause-digits c =
    let form : is_date_word c.args.word.now ≡ true = grind arith in
    rw c.as_bytes-bytes.ensures.value (date_word c.args.word.now form).day

pub day_of_date-requires-clause-year : goal.day_of_date-requires-clause-year
day_of_date-requires-clause-year c =
    let form : is_date_word c.args.word.now ≡ true = grind arith in
    rw (c.digits_value-year.ensures, c.as_bytes-bytes.ensures.value) (word_year-small c.args.word.now form)

pub day_of_date-requires-clause-month : goal.day_of_date-requires-clause-month
day_of_date-requires-clause-month c =
    let form : is_date_word c.args.word.now ≡ true = grind arith in
    rw (c.digits_value-month.ensures, c.as_bytes-bytes.ensures.value) (word_month-small c.args.word.now form)

pub day_of_date-requires-clause-day : goal.day_of_date-requires-clause-day
day_of_date-requires-clause-day c =
    let form : is_date_word c.args.word.now ≡ true = grind arith in
    rw (c.digits_value-day.ensures, c.as_bytes-bytes.ensures.value) (word_day-small c.args.word.now form)

pub returns-clause-value : goal.returns-clause-value
returns-clause-value c =
    let form : is_date_word c.args.word.now ≡ true = grind arith in
    let same = c.as_bytes-bytes.ensures.value in
    let year : c.digits_value-year.result ≡ word_year c.args.word.now = c.digits_value-year.ensures ∙ ap word_year same in
    let month : c.digits_value-month.result ≡ word_month c.args.word.now = c.digits_value-month.ensures ∙ ap word_month same in
    let day : c.digits_value-day.result ≡ word_day c.args.word.now = c.digits_value-day.ensures ∙ ap word_day same in
    c.day_of_date.ensures.value ∙ rw (year, month, day) (day_of-word c.args.word.now form)
