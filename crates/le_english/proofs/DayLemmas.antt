-- The text of a day is a date that gives the day back.
use Rattle.std.proofs.Common.{◌≡◌, ℕ, zero, suc, ◌+◌, ◌<◌, ◌≤◌, Some, ℤ, pos, negsuc, ◌+ℤ◌, ◌-ℤ◌, ◌≤ℤ◌, unsigned_abs, refl, sym, ap, ◌∙◌, ⊎_elim, arith}
use Rattle.std.proofs.lemmas.Bool.{cases_lt}
use Rattle.std.proofs.lemmas.Int.{ints}
use Rattle.jiff_core.specs.declared.civil.date.Date.{Date}
use Rattle.jiff_core.specs.Calendar.{days_from_civil, days_in_month}
use Rattle.jiff_core.specs.Date.{epoch_day}
use Rattle.jiff_core.proofs.SignedLemmas.{signed_arith}
use Rattle.jiff_core.proofs.CalendarLemmas.{days_in_month_bounds}
use Rattle.jiff_core.proofs.DateLemmas.{days_from_civil-day, days_from_civil-next_month, days_from_civil-next_year, days_from_civil-max}
use Rattle.le_base.specs.Ranges.{IsDay}
use Rattle.le_values.specs.Days.{day_of, day_text, first_day}
use Rattle.le_values.proofs.DayLemmas.{days_from_civil-first}
use Rattle.le_values.proofs.TextLemmas.{day_of-day_text}

-- a date of the years 1 to 9999, so many days after the first
record Civil (n : ℕ) : Type 0 where
  year : ℕ
  month : ℕ
  day : ℕ
  first : 1 ≤ year
  last : year ≤ 9999
  month_first : 1 ≤ month
  month_last : month ≤ 12
  day_first : 1 ≤ day
  day_last : day ≤ days_in_month (pos year) month
  is : days_from_civil (pos year) month day ≡ first_day +ℤ pos n

-- the day after a date of the same month
next_day : (n : ℕ) (c : Civil n) → c.day < days_in_month (pos c.year) c.month → Civil (suc n)
next_day n c h = record {
  year = c.year;
  month = c.month;
  day = c.day + 1;
  first = c.first;
  last = c.last;
  month_first = c.month_first;
  month_last = c.month_last;
  day_first = omega arith;
  day_last = omega (arith, h);
  is = omega (arith, signed_arith, ints, c.is, days_from_civil-day (pos c.year) c.month c.day (c.day + 1) c.day_first (omega arith));
}

-- the first of the next month
next_month : (n : ℕ) (c : Civil n) → c.day ≡ days_in_month (pos c.year) c.month → c.month < 12 → Civil (suc n)
next_month n c h k = record {
  year = c.year;
  month = c.month + 1;
  day = 1;
  first = c.first;
  last = c.last;
  month_first = omega arith;
  month_last = omega (arith, k);
  day_first = omega arith;
  day_last = omega (arith, (days_in_month_bounds (pos c.year) (c.month + 1)).1);
  is = omega (arith, signed_arith, ints, c.is, days_from_civil-next_month (pos c.year) c.month c.day c.month_first h);
}

-- 1 January of the next year
next_year : (n : ℕ) (c : Civil n) → c.day ≡ 31 → c.month ≡ 12 → c.year < 9999 → Civil (suc n)
next_year n c h k l =
    let same : days_from_civil (pos c.year) 12 31 ≡ first_day +ℤ pos n = sym (ap (λ m. days_from_civil (pos c.year) m 31) k) ∙ sym (ap (λ d. days_from_civil (pos c.year) c.month d) h) ∙ c.is in
    record {
      year = c.year + 1;
      month = 1;
      day = 1;
      first = omega arith;
      last = omega (arith, l);
      month_first = omega arith;
      month_last = omega arith;
      day_first = omega arith;
      day_last = omega (arith, (days_in_month_bounds (pos (c.year + 1)) 1).1);
      is = omega (arith, signed_arith, ints, same, days_from_civil-next_year (pos c.year) (pos (c.year + 1)) (omega (arith, ints)) (omega (arith, signed_arith, ints)));
    }

-- no date is after 9999-12-31
last_date : (n : ℕ) (c : Civil n) → c.day ≡ 31 → c.month ≡ 12 → c.year ≡ 9999 → n ≡ 3_652_058
last_date n c h k l =
    let same : days_from_civil (pos 9999) 12 31 ≡ first_day +ℤ pos n = sym (ap (λ y. days_from_civil (pos y) 12 31) l) ∙ sym (ap (λ m. days_from_civil (pos c.year) m 31) k) ∙ sym (ap (λ d. days_from_civil (pos c.year) c.month d) h) ∙ c.is in
    omega (arith, signed_arith, ints, same, days_from_civil-max)

civil : (n : ℕ) → n ≤ 3_652_058 → Civil n
civil zero h = record {
  year = 1;
  month = 1;
  day = 1;
  first = omega arith;
  last = omega arith;
  month_first = omega arith;
  month_last = omega arith;
  day_first = omega arith;
  day_last = omega (arith, (days_in_month_bounds (pos 1) 1).1);
  is = omega (arith, signed_arith, ints, days_from_civil-first);
}
civil (suc n) h =
    let c = civil n (omega (arith, h)) in
    ⊎_elim (λ (inside : c.day < days_in_month (pos c.year) c.month). next_day n c inside)
    (λ (outside : days_in_month (pos c.year) c.month ≤ c.day).
    let whole : c.day ≡ days_in_month (pos c.year) c.month = omega (arith, outside, c.day_last) in
    ⊎_elim (λ (k : c.month < 12). next_month n c whole k)
    (λ (k : 12 ≤ c.month).
    let december : c.month ≡ 12 = omega (arith, k, c.month_last) in
    let end : c.day ≡ 31 = whole ∙ ap (days_in_month (pos c.year)) december in
    ⊎_elim (λ (l : c.year < 9999). next_year n c end december l)
    (λ (l : 9999 ≤ c.year).
    let year : c.year ≡ 9999 = omega (arith, l, c.last) in
    absurd (omega (arith, h, last_date n c end december year)))
    (cases_lt c.year 9999))
    (cases_lt c.month 12))
    (cases_lt c.day (days_in_month (pos c.year) c.month))

date_of : (n : ℕ) → Civil n → Date
date_of n c = record {
  year = pos c.year;
  month = c.month;
  day = c.day;
  year_in = (omega (arith, ints, c.first), omega (arith, ints, c.last));
  month_in = (c.month_first, c.month_last);
  day_in = (c.day_first, c.day_last);
}

date_of-is : (n : ℕ) (c : Civil n) → epoch_day (date_of n c) ≡ first_day +ℤ pos n
unfolding date_of
date_of-is n c = c.is

natural : (z : ℤ) → pos 0 ≤ℤ z → z ≡ pos (unsigned_abs z)
natural (pos n) h = refl
natural (negsuc n) h = absurd (omega (arith, ints))

pub day-back : (day : ℤ) → IsDay day → day_of (day_text day) ≡ Some day
day-back day h =
    let n = unsigned_abs (day -ℤ first_day) in
    let low : pos 0 ≤ℤ (day -ℤ first_day) = omega (arith, signed_arith, ints, h.0) in
    let is : day -ℤ first_day ≡ pos n = natural (day -ℤ first_day) low in
    let high : n ≤ 3_652_058 = omega (arith, signed_arith, ints, h.1, is) in
    let c = civil n high in
    let same : first_day +ℤ pos n ≡ day = omega (arith, signed_arith, ints, is) in
    let number : epoch_day (date_of n c) ≡ day = date_of-is n c ∙ same in
    day_of-day_text (date_of n c) day number h
