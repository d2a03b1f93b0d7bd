-- The numbers and days that computing and gathering give are those that a term may have.
use Rattle.std.proofs.Common.{◌≡◌, ℕ, suc, ◌+◌, ◌≤◌, ◌<◌, ◌^◌, ◌∙◌, min, Bool, true, false, List, [], ◌∷◌, length, Some, None, refl, sym, ◌&&◌, if◌then◌else◌, ℤ, pos, negsuc, ◌+ℤ◌, ◌≤ℤ◌, int_le, int_lt, unsigned_abs, arith}
use Rattle.std.specs.Prelude.{IfSome}
use Rattle.std.specs.Int.{int_rem_euclid}
use Rattle.std.specs.List.{AllByRecursion}
use Rattle.std.proofs.lemmas.Bool.{and_parts, leb-true, true≢false}
use Rattle.std.proofs.lemmas.Int.{ints, by_lt_z}
use Rattle.jiff_core.specs.Calendar.{day_count, days_from_civil, days_in_month, IsCivilDate}
use Rattle.jiff_core.proofs.SignedLemmas.{signed_arith, int_rem_euclid-parts}
use Rattle.jiff_core.proofs.MarchLemmas.{day_count-early}
use Rattle.jiff_core.proofs.CalendarLemmas.{days_from_civil-day_count, day_count-later_year, day_count-day_of_year, day_count_bounds, days_in_month_bounds}
use Rattle.le_base.specs.declared.stop.FoldKind.{FoldKind}
use Rattle.le_base.specs.declared.stop.FoldKind.TheVariants.{Sum, Number, Greatest}
use Rattle.le_base.specs.Ranges.{IsNumber, IsDay}
use Rattle.le_terms.specs.Tree.{Tree, constant, number as numeral, date, variable, nil, cell, IsInRange}
use Rattle.le_values.specs.Numbers.{is_number}
use Rattle.le_values.specs.Days.{is_day, days_later, months_later, day_in_month, day_in_count, month_count, year_of_count, month_of_count}
use Rattle.le_values.proofs.DayLemmas.{int_le_fails}
use Rattle.le_gather.specs.declared.folding.FoldAnswer.{FoldAnswer}
use Rattle.le_gather.specs.declared.folding.FoldAnswer.TheVariants as folds
use Rattle.le_gather.specs.Folds.{with_numbers, greater, in_range, fold_of}

-- ---- numbers

pub number-inside : (n : ℤ) → is_number n ≡ true → IsNumber n
number-inside (pos n) test = let small : n ≤ 10 ^ 18 = leb-true n (10 ^ 18) test in (omega (arith, ints), omega (arith, ints))
number-inside (negsuc n) test = let small : suc n ≤ 10 ^ 18 = leb-true (suc n) (10 ^ 18) test in (omega (arith, ints), omega (arith, ints))

-- ---- days

int-le : (a b : ℤ) → int_le a b ≡ true → a ≤ℤ b
int-le a b test = by_lt_z b a (λ low. absurd (true≢false (sym test ∙ int_le_fails a b low))) (λ high. high)

pub later-inside : (day n : ℤ) → IfSome (days_later day n) IsDay
unfolding days_later
later-inside day n = by (is_day (day +ℤ n)) refl
  where
    by : (b : Bool) → is_day (day +ℤ n) ≡ b → IfSome (if b then Some (day +ℤ n) else None) IsDay
    by true test = let both = and_parts _ _ test in (int-le _ _ both.0, int-le _ _ both.1)
    by false test = tt

day_count-first_day : day_count (pos 1) 1 1 ≡ 3_652_791
day_count-first_day = day_count-early (pos 1) 10000 1 1 refl (omega arith) (omega arith) (omega arith)

-- a date of the year 1 or later
civil-inside : (year : ℤ) (month day : ℕ) → pos 1 ≤ℤ year → IsCivilDate year month day → IsDay (days_from_civil year month day)
civil-inside year month day low is =
    let most : day_count year month day ≤ 7_304_849 = (day_count_bounds year month day is).1 in
    let first : 1 ≤ day = is.2.0 in (
      by_lt_z (pos 1) year
          (λ later. omega (arith, signed_arith, days_from_civil-day_count, day_count-first_day, day_count-later_year (pos 1) year (omega (arith, signed_arith)) later, day_count-day_of_year year month day first))
          (λ early. let one : year ≡ pos 1 = omega (arith, signed_arith) in rw one (omega (arith, signed_arith, days_from_civil-day_count, day_count-first_day, day_count-day_of_year (pos 1) month day first))),
      omega (arith, signed_arith, days_from_civil-day_count year month day),
    )

count-inside : (day : ℕ) (count : ℤ) → 1 ≤ day → IfSome (day_in_count day count) IsDay
count-inside day count first = by (int_le (pos 1) (year_of_count count) && int_le (year_of_count count) (pos 9999)) refl
  where
    is-civil : pos 1 ≤ℤ year_of_count count → year_of_count count ≤ℤ pos 9999 → IsCivilDate (year_of_count count) (month_of_count count) (min day (days_in_month (year_of_count count) (month_of_count count)))
    is-civil low high =
        let some : 28 ≤ days_in_month (year_of_count count) (month_of_count count) = (days_in_month_bounds (year_of_count count) (month_of_count count)).1 in
        let rest : unsigned_abs (int_rem_euclid count (pos 12)) < 12 = omega (arith, signed_arith, int_rem_euclid-parts count 12 (omega arith)) in
        ((omega (arith, signed_arith), omega (arith, signed_arith)), (omega arith, omega arith), (omega arith, omega arith))

    by : (b : Bool) → (int_le (pos 1) (year_of_count count) && int_le (year_of_count count) (pos 9999)) ≡ b
        → IfSome (if b then Some (days_from_civil (year_of_count count) (month_of_count count) (min day (days_in_month (year_of_count count) (month_of_count count)))) else None) IsDay
    by true test =
        let both = and_parts _ _ test in
        let low : pos 1 ≤ℤ year_of_count count = int-le _ _ both.0 in
        civil-inside (year_of_count count) (month_of_count count) (min day (days_in_month (year_of_count count) (month_of_count count))) low (is-civil low (int-le _ _ both.1))
    by false test = tt

first-day : (day : ℤ) → 1 ≤ day_in_month day
unfolding day_in_month
first-day day = omega arith

pub months-inside : (day n : ℤ) → IfSome (months_later day n) IsDay
unfolding months_later
months-inside day n = count-inside (day_in_month day) (pos (month_count day) +ℤ n) (first-day day)

-- ---- gathers

-- what is made of values is a number that a term may have, if it is one
abbrev pub FoldInside : FoldAnswer → Type 0
FoldInside (folds.Value z) = IsNumber z
FoldInside answer = Unit {0}

sum-inside : (z : ℤ) → FoldInside (in_range z)
sum-inside z = by (is_number z) refl
  where
    by : (b : Bool) → is_number z ≡ b → FoldInside (if b then folds.Value z else folds.Range)
    by true test = number-inside z test
    by false test = tt

sums-inside : (so_far : ℤ) (values : List Tree) → FoldInside (with_numbers (λ x y. x +ℤ y) in_range so_far values)
sums-inside so_far [] = sum-inside so_far
sums-inside so_far (numeral z ∷ values) = sums-inside (so_far +ℤ z) values
sums-inside so_far (variable v ∷ values) = tt
sums-inside so_far (constant n ∷ values) = tt
sums-inside so_far (date d ∷ values) = tt
sums-inside so_far (nil ∷ values) = tt
sums-inside so_far (cell head tail ∷ values) = tt

greater-inside : (x y : ℤ) → IsNumber x → IsNumber y → IsNumber (greater x y)
greater-inside x y one two = by (int_lt x y)
  where
    by : (b : Bool) → IsNumber (if b then y else x)
    by true = two
    by false = one

greatest-inside : (so_far : ℤ) → IsNumber so_far → (values : List Tree) → AllByRecursion IsInRange values → FoldInside (with_numbers greater folds.Value so_far values)
greatest-inside so_far is [] all = is
greatest-inside so_far is (numeral z ∷ values) all = greatest-inside (greater so_far z) (greater-inside so_far z is all.0) values all.1
greatest-inside so_far is (variable v ∷ values) all = tt
greatest-inside so_far is (constant n ∷ values) all = tt
greatest-inside so_far is (date d ∷ values) all = tt
greatest-inside so_far is (nil ∷ values) all = tt
greatest-inside so_far is (cell head tail ∷ values) all = tt

-- of values that terms may have, and of no more than the greatest number
pub fold-inside : (fold : FoldKind) (values : List Tree) → AllByRecursion IsInRange values → length values ≤ 10 ^ 18 → FoldInside (fold_of fold values)
fold-inside Sum values all few = sums-inside (pos 0) values
fold-inside Number values all few = (omega (arith, ints), omega (arith, ints))
fold-inside Greatest [] all few = tt
fold-inside Greatest (numeral z ∷ values) all few = greatest-inside z all.0 values all.1
fold-inside Greatest (variable v ∷ values) all few = tt
fold-inside Greatest (constant n ∷ values) all few = tt
fold-inside Greatest (date d ∷ values) all few = tt
fold-inside Greatest (nil ∷ values) all few = tt
fold-inside Greatest (cell head tail ∷ values) all few = tt
