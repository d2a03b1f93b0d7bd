-- The text of a date is a word of the form of a date, and is that date.
use Rattle.std.proofs.Common.{◌≡◌, ℕ, ◌+◌, ◌/◌, ◌%◌, ◌<◌, ◌≤◌, true, List, ◌∷◌, ◌++◌, Some, ℤ, pos, refl, sym, ap, ◌∙◌, arith}
use Rattle.std.proofs.lemmas.Bool.{and_from, le-leb}
use Rattle.std.proofs.lemmas.Bool.Decides.{nat_tests}
use Rattle.std.specs.Char.{digit_value, is_ascii_digit}
use Rattle.std.specs.List.{list_all}
use Rattle.std.specs.Str.Parse.{digits_value}
use Rattle.jiff_core.specs.declared.civil.date.Date.{Date}
use Rattle.jiff_core.specs.Date.{epoch_day, IsYmd}
use Rattle.jiff_core.proofs.SignedLemmas.{signed_arith}
use Rattle.jiff_core.proofs.CalendarLemmas.{days_in_month_bounds}
use Rattle.jiff_fmt.specs.Text.{pad2, pad4, date_text}
use Rattle.le_base.specs.Ranges.{IsDay}
use Rattle.le_values.specs.Days.{is_date_word, word_year, word_month, word_day, day_of_date, day_of, year_of, month_of, day_in_month, day_text}
use Rattle.le_values.proofs.DayLemmas.{date_parts, day_of_date-is, day_of-word, year_in_years}

digit-is : (n : ℕ) → n < 10 → is_ascii_digit (48 + n) ≡ true
digit-is n h = and_from _ _ (le-leb 48 (48 + n) (omega arith)) (le-leb (48 + n) 57 (omega arith))

digit-value : (n : ℕ) → n < 10 → digit_value (48 + n) ≡ n
digit-value n h = grind (arith, nat_tests)

-- two digits
pub digits-pad2 : (n : ℕ) → n < 100 → list_all is_ascii_digit (pad2 n) ≡ true
digits-pad2 n h = rw (digit-is (n / 10) (omega arith), digit-is (n % 10) (omega arith)) refl

pub value-pad2 : (n : ℕ) → n < 100 → digits_value 10 (pad2 n) ≡ n
value-pad2 n h = rw (digit-value (n / 10) (omega arith), digit-value (n % 10) (omega arith)) (omega arith)

-- four digits
pub digits-pad4 : (n : ℕ) → n < 10_000 → list_all is_ascii_digit (pad4 n) ≡ true
digits-pad4 n h =
    rw (digit-is (n / 100 / 10) (omega arith), digit-is (n / 100 % 10) (omega arith), digit-is (n % 100 / 10) (omega arith), digit-is (n % 100 % 10) (omega arith)) refl

pub value-pad4 : (n : ℕ) → n < 10_000 → digits_value 10 (pad4 n) ≡ n
value-pad4 n h =
    rw (digit-value (n / 100 / 10) (omega arith), digit-value (n / 100 % 10) (omega arith), digit-value (n % 100 / 10) (omega arith), digit-value (n % 100 % 10) (omega arith)) (omega arith)

-- a year, a month and a day as a word
abbrev date_in_digits : ℕ → ℕ → ℕ → List ℕ
date_in_digits y m d = pad4 y ++ 45 ∷ pad2 m ++ 45 ∷ pad2 d

form : (y m d : ℕ) → y < 10_000 → m < 100 → d < 100 → is_date_word (date_in_digits y m d) ≡ true
form y m d hy hm hd =
    and_from _ _ (and_from _ _ (and_from _ _ (and_from _ _ (and_from _ _ refl (digits-pad4 y hy)) refl) (digits-pad2 m hm)) refl) (digits-pad2 d hd)

-- the text of a date, as jiff writes it
pub date_text-is : (d : Date) (day : ℤ) → epoch_day d ≡ day → IsDay day → date_text d ≡ day_text day
unfolding day_text
date_text-is d day e h =
    let parts = date_parts d day e h in
    rw (parts.0, parts.1, parts.2) refl

-- is read as that date
pub day_of-day_text : (d : Date) (day : ℤ) → epoch_day d ≡ day → IsDay day → day_of (day_text day) ≡ Some day
unfolding day_text
day_of-day_text d day e h =
    let parts = date_parts d day e h in
    let year_in = d.year_in in
    let month_in = d.month_in in
    let day_in = d.day_in in
    let long = days_in_month_bounds d.year d.month in
    let low = year_in_years d (rw e h.0) in
    let y : year_of day < 10_000 = omega (arith, signed_arith, parts.0) in
    let one : 1 ≤ year_of day = omega (arith, signed_arith, parts.0) in
    let m : month_of day < 100 = omega (arith, parts.1) in
    let n : day_in_month day < 100 = omega (arith, parts.2) in
    let word = date_in_digits (year_of day) (month_of day) (day_in_month day) in
    let is : IsYmd (pos (year_of day)) (pos (month_of day)) (pos (day_in_month day)) d =
    (parts.0, ap (λ k. pos k) parts.1, ap (λ k. pos k) parts.2) in
    let read : day_of_date (word_year word) (word_month word) (word_day word) ≡ day_of_date (year_of day) (month_of day) (day_in_month day) =
    rw (value-pad4 (year_of day) y, value-pad2 (month_of day) m, value-pad2 (day_in_month day) n) refl in
    sym (day_of-word word (form (year_of day) (month_of day) (day_in_month day) y m n))
    ∙ read ∙ sym (day_of_date-is (year_of day) (month_of day) (day_in_month day) d one is) ∙ ap (λ z. Some z) e
