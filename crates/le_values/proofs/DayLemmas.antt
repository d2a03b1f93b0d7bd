-- A date's year, month and day are those that the definitions read off its day number.
use Rattle.std.proofs.Common.{◌≡◌, ℕ, zero, suc, ◌+◌, ◌-◌, ◌*◌, ◌^◌, ◌<◌, ◌≤◌, true, false, List, length, take, drop, slice_range, length-take, get_or, Some, None, FitsSigned, w64, ◌⊎◌, inl, inr, ⊎_elim, ℤ, pos, negsuc, ◌+ℤ◌, ◌-ℤ◌, ◌<ℤ◌, ◌≤ℤ◌, int_le, unsigned_abs, refl, sym, ap, ◌∙◌, arith}
use Rattle.std.proofs.lemmas.Bool.{cases_lt, and_parts, and_from, and_left, and_right, eqb-true, le-leb}
use Rattle.std.proofs.lemmas.Bool.Decides.{nat_tests}
use Rattle.std.proofs.lemmas.Grind.{pow_more}
use Rattle.std.proofs.lemmas.Int.{ints, by_lt_z}
use Rattle.std.proofs.lemmas.Int.Digits.{digits_value_more}
use Rattle.std.proofs.lemmas.Str.Parse.{digit_at, digits_value_short}
use Rattle.std.specs.Char.{digit_value, is_ascii_digit}
use Rattle.std.specs.Int.{IsInRange, is_in_range}
use Rattle.std.specs.List.{list_all}
use Rattle.std.specs.Str.Parse.{digits_value}
use Rattle.jiff_core.specs.declared.civil.date.Date.{Date}
use Rattle.jiff_core.specs.Calendar.{day_count, days_from_civil, days_in_month, IsCivilDate}
use Rattle.jiff_core.specs.Date.{epoch_day, IsYmd}
use Rattle.jiff_core.proofs.SignedLemmas.{signed_arith}
use Rattle.jiff_core.proofs.MarchLemmas.{day_count-early}
use Rattle.jiff_core.proofs.CalendarLemmas.{days_from_civil-day_count, day_count-lt_year, day_count-later_year, day_count-lt_month, day_count-day, day_count-day_of_year}
use Rattle.jiff_core.proofs.DateLemmas.{civil, epoch_day_range}
use Rattle.le_base.specs.Ranges.{IsDay}
use Rattle.le_values.specs.Days.{first_day, last_day, is_day, is_date, is_date_word, word_year, word_month, word_day, day_of_date, day_of, last_begun, year_of, month_of, day_in_month, days_later}
use Rattle.le_values.proofs.NumberLemmas.{numerals}

-- a power of ten with at most three zeros
pub small_power : (i : ℕ) → i ≤ 3 → 10 ^ i ≤ 1000
small_power zero h = omega arith
small_power (suc zero) h = omega arith
small_power (suc (suc zero)) h = omega arith
small_power (suc (suc (suc zero))) h = omega arith
small_power (suc (suc (suc (suc n)))) h = absurd (omega arith)

-- the value of a digit
digit_value-is : (c : ℕ) → IsInRange 48 57 c → digit_value c ≡ c - 48
digit_value-is c h = grind (arith, nat_tests)

-- one more digit is read
pub digits_step : (ds : List ℕ) (i value : ℕ) → i < length ds → list_all is_ascii_digit ds ≡ true → value ≡ digits_value 10 (take i ds) → value < 10 ^ i → (value * 10 + (get_or ds i 0 - 48) ≡ digits_value 10 (take (i + 1) ds)) × (value * 10 + (get_or ds i 0 - 48) < 10 ^ (i + 1))
digits_step ds i value h digits same small =
    let digit = digit_at ds i (numerals.to ds digits) h in
    let read = digits_value_more 10 ds i h in
    let is = digit_value-is (get_or ds i 0) digit in
    let grown : 10 ^ (i + 1) ≡ 10 ^ i * 10 = pow_more 10 i in
    (rw (read, is, ← same) refl, rw grown (omega (arith, digit)))

pub int_le_holds : (a b : ℤ) → a ≤ℤ b → int_le a b ≡ true
int_le_holds a b h = grind (arith, ints)

pub int_le_fails : (a b : ℤ) → b <ℤ a → int_le a b ≡ false
int_le_fails a b h = grind (arith, ints)

-- the last that has begun is k, where k has begun and none after it has
pub last_begun-is : (start : ℕ → ℤ) (n k : ℕ) (day : ℤ) → 1 ≤ k → k ≤ n → start k ≤ℤ day → ((j : ℕ) → k < j → j ≤ n → day <ℤ start j) → last_begun start n day ≡ k
unfolding last_begun
last_begun-is start zero k day low high begun later = absurd (omega arith)
last_begun-is start (suc n) k day low high begun later =
    ⊎_elim
    (λ (before : k < suc n).
    rw (int_le_fails (start (suc n)) day (later (suc n) before (omega arith)))
    (last_begun-is start n k day low (omega arith) begun (λ j more most. later j more (omega arith))))
    (λ (at : suc n ≤ k).
    let same : k ≡ suc n = omega arith in
    let here : start (suc n) ≤ℤ day = rw same at begun in
    rw (int_le_holds (start (suc n)) day here) (sym same))
    (cases_lt k (suc n))

day_count-first_day : day_count (pos 1) 1 1 ≡ 3_652_791
day_count-first_day = day_count-early (pos 1) 10000 1 1 refl (omega arith) (omega arith) (omega arith)

-- 0001-01-01 has the first day number
pub days_from_civil-first : days_from_civil (pos 1) 1 1 ≡ first_day
days_from_civil-first = omega (arith, signed_arith, days_from_civil-day_count (pos 1) 1 1, day_count-first_day)

-- a date's day number is in the years exactly where its year is at least 1
pub day_in_years : (d : Date) → pos 1 ≤ℤ d.year → IsDay (epoch_day d)
day_in_years d h =
    let place = day_count-day_of_year d.year d.month d.day d.day_in.0 in
    let first = d.day_in.0 in
    let low : first_day ≤ℤ epoch_day d = by_lt_z (pos 1) d.year
    (λ lt. omega (arith, signed_arith, days_from_civil-day_count, day_count-first_day, day_count-later_year (pos 1) d.year (omega (arith, signed_arith)) lt))
    (λ le. let one : d.year ≡ pos 1 = omega (arith, signed_arith) in
    rw one (omega (arith, signed_arith, days_from_civil-day_count, day_count-first_day, day_count-day_of_year (pos 1) d.month d.day first))) in
    (low, (epoch_day_range d).1)

pub year_in_years : (d : Date) → first_day ≤ℤ epoch_day d → pos 1 ≤ℤ d.year
year_in_years d h =
    by_lt_z d.year (pos 1)
    (λ lt. absurd (omega (arith, signed_arith, days_from_civil-day_count, day_count-first_day, day_count-lt_year d.year d.month d.day (pos 1) 1 1 (civil d) (omega arith) lt)))
    (λ ge. ge)

-- the year, the month and the day of a date from its day number
pub year_of-date : (y m d : ℕ) → 1 ≤ y → y ≤ 9999 → IsCivilDate (pos y) m d → year_of (days_from_civil (pos y) m d) ≡ y
unfolding year_of
year_of-date y m d low high h =
    last_begun-is (λ year. days_from_civil (pos year) 1 1) 9999 y (days_from_civil (pos y) m d) low high
    (omega (arith, signed_arith, days_from_civil-day_count, day_count-day_of_year (pos y) m d h.2.0))
    (λ j more most. omega (arith, signed_arith, days_from_civil-day_count, day_count-lt_year (pos y) m d (pos j) 1 1 h (omega arith) (omega (arith, signed_arith))))

pub month_of-date : (y m d : ℕ) → 1 ≤ y → y ≤ 9999 → IsCivilDate (pos y) m d → month_of (days_from_civil (pos y) m d) ≡ m
unfolding month_of
month_of-date y m d low high h =
    rw (year_of-date y m d low high h)
    (last_begun-is (λ month. days_from_civil (pos y) month 1) 12 m (days_from_civil (pos y) m d) h.1.0 h.1.1
    (omega (arith, signed_arith, days_from_civil-day_count, day_count-day (pos y) m d 1 h.2.0 (omega arith)))
    (λ j more most. omega (arith, signed_arith, days_from_civil-day_count, day_count-lt_month (pos y) m d j 1 h (omega arith) more)))

pub day_in_month-date : (y m d : ℕ) → 1 ≤ y → y ≤ 9999 → IsCivilDate (pos y) m d → day_in_month (days_from_civil (pos y) m d) ≡ d
unfolding day_in_month
day_in_month-date y m d low high h =
    let first = h.2.0 in
    let before : days_from_civil (pos y) m d -ℤ days_from_civil (pos y) m 1 ≡ pos (d - 1) =
    omega (arith, signed_arith, days_from_civil-day_count, day_count-day (pos y) m d 1 h.2.0 (omega arith)) in
    rw (year_of-date y m d low high h, month_of-date y m d low high h, before) (omega arith)

pub natural : (z : ℤ) → pos 1 ≤ℤ z → z ≡ pos (unsigned_abs z)
natural (pos n) h = refl
natural (negsuc n) h = absurd (omega (arith, ints))

-- and so of the date that a call gives for a day number
pub date_parts : (d : Date) (day : ℤ) → epoch_day d ≡ day → IsDay day → (d.year ≡ pos (year_of day)) × (d.month ≡ month_of day) × (d.day ≡ day_in_month day)
date_parts d day e h =
    let low = year_in_years d (rw e h.0) in
    let inside = d.year_in in
    let year : d.year ≡ pos (unsigned_abs d.year) = natural d.year low in
    let first : 1 ≤ unsigned_abs d.year = omega (arith, signed_arith) in
    let last : unsigned_abs d.year ≤ 9999 = omega (arith, signed_arith) in
    let is : IsCivilDate (pos (unsigned_abs d.year)) d.month d.day = rw (← year) (civil d) in
    let same : days_from_civil (pos (unsigned_abs d.year)) d.month d.day ≡ day = rw (← year) e in (
      year ∙ ap (λ y. pos y) (sym (rw same at (year_of-date (unsigned_abs d.year) d.month d.day first last is))),
      sym (rw same at (month_of-date (unsigned_abs d.year) d.month d.day first last is)),
      sym (rw same at (day_in_month-date (unsigned_abs d.year) d.month d.day first last is)),
    )

within : (low high n : ℕ) → low ≤ n → n ≤ high → is_in_range low high n ≡ true
within low high n h k = and_from _ _ (le-leb low n h) (le-leb n high k)

-- a date has the day number that the definition gives it
pub day_of_date-is : (year month day : ℕ) (d : Date) → 1 ≤ year → IsYmd (pos year) (pos month) (pos day) d → Some (epoch_day d) ≡ day_of_date year month day
day_of_date-is year month day d low h =
    let inside = d.year_in in
    let years : year ≤ 9999 = omega (arith, signed_arith, h.0) in
    let m : d.month ≡ month = omega (arith, signed_arith, h.1) in
    let n : d.day ≡ day = omega (arith, signed_arith, h.2) in
    let months : is_in_range 1 12 month ≡ true = within 1 12 month (omega (arith, d.month_in)) (omega (arith, d.month_in)) in
    let here = rw (h.0, m, n) at d.day_in in
    let days : is_in_range 1 (days_in_month (pos year) month) day ≡ true = within 1 _ day here.0 here.1 in
    let is : is_date year month day ≡ true = and_from _ _ (and_from _ _ (within 1 9999 year low years) months) days in
    rw (h.0, m, n, is) refl

-- the parts of a word of the form of a date
pub record DateWord (word : List ℕ) : Type 0 where
  pub long : length word ≡ 10
  pub year : list_all is_ascii_digit (take 4 word) ≡ true
  pub month : list_all is_ascii_digit (slice_range word 5 7) ≡ true
  pub day : list_all is_ascii_digit (slice_range word 8 10) ≡ true

pub date_word : (word : List ℕ) → is_date_word word ≡ true → DateWord word
date_word word h =
    let five = and_parts _ _ h in
    let four = and_parts _ _ five.0 in
    let three = and_parts _ _ four.0 in
    let two = and_parts _ _ three.0 in
    let one = and_parts _ _ two.0 in
    record { long = eqb-true _ _ one.0; year = one.1; month = three.1; day = five.1 }

pub day_of-no_word : (word : List ℕ) → is_date_word word ≡ false → None ≡ day_of word
unfolding day_of
day_of-no_word word h = rw h refl

pub day_of-word : (word : List ℕ) → is_date_word word ≡ true → day_of_date (word_year word) (word_month word) (word_day word) ≡ day_of word
unfolding day_of
day_of-word word h = rw h refl

-- the numbers that the parts write are small
pub word_year-small : (word : List ℕ) → is_date_word word ≡ true → word_year word < 10_000
word_year-small word h =
    let w = date_word word h in
    digits_value_short numerals (take 4 word) 4 w.year (omega (arith, w.long, length-take 4 word))

pub word_month-small : (word : List ℕ) → is_date_word word ≡ true → word_month word < 100
word_month-small word h =
    let w = date_word word h in
    digits_value_short numerals (slice_range word 5 7) 2 w.month (omega (arith, length-take 2 (drop 5 word)))

pub word_day-small : (word : List ℕ) → is_date_word word ≡ true → word_day word < 100
word_day-small word h =
    let w = date_word word h in
    digits_value_short numerals (slice_range word 8 10) 2 w.day (omega (arith, length-take 2 (drop 8 word)))

int_outside : (z : ℤ) → (z <ℤ first_day) ⊎ (last_day <ℤ z) → is_day z ≡ false
int_outside z (inl low) = and_left _ _ (int_le_fails first_day z low)
int_outside z (inr high) = and_right _ _ (int_le_fails z last_day high)

pub days_later-outside : (day n : ℤ) → ((day +ℤ n) <ℤ first_day) ⊎ (last_day <ℤ (day +ℤ n)) → None ≡ days_later day n
unfolding days_later
days_later-outside day n h = rw (int_outside (day +ℤ n) h) refl

pub days_later-inside : (day n : ℤ) → IsDay (day +ℤ n) → Some (day +ℤ n) ≡ days_later day n
unfolding days_later
days_later-inside day n h =
    let yes' : is_day (day +ℤ n) ≡ true = and_from _ _ (int_le_holds _ _ h.0) (int_le_holds _ _ h.1) in
    rw yes' refl

-- a sum that doesn't fit its type is outside the years
pub overflow_outside : (z : ℤ) → (FitsSigned w64 z → ⊥) → (z <ℤ first_day) ⊎ (last_day <ℤ z)
overflow_outside z h =
    by_lt_z z first_day (λ low. inl low)
    (λ ge. by_lt_z last_day z (λ high. inr high)
    (λ le. let fits : FitsSigned w64 z = omega (arith, signed_arith) in absurd (h fits)))
