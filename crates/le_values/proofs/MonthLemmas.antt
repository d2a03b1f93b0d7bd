-- The definition of a day some months later, in the words in which jiff counts months.
use Rattle.std.proofs.Common.{◌≡◌, ◌⊎◌, inl, inr, Some, None, ℤ, pos, ◌+ℤ◌, ◌<ℤ◌, ◌≤ℤ◌, int_le, refl, sym, arith}
use Rattle.std.proofs.lemmas.Bool.{and_from, and_left, and_right}
use Rattle.std.proofs.lemmas.Int.{by_lt_z}
use Rattle.jiff_core.specs.declared.civil.date.Date.{Date}
use Rattle.jiff_core.specs.Date.{epoch_day}
use Rattle.jiff_core.proofs.SignedLemmas.{signed_arith}
use Rattle.jiff_span.specs.Months.{month_number, shifted_year, add_months, IsShiftable}
use Rattle.jiff_span.proofs.MonthLemmas.{shift_parts}
use Rattle.le_base.specs.Ranges.{IsDay}
use Rattle.le_values.specs.Days.{month_count, months_later}
use Rattle.le_values.proofs.DayLemmas.{date_parts, int_le_holds, int_le_fails}

month_count-is : (d : Date) (day : ℤ) → epoch_day d ≡ day → IsDay day → pos (month_count day) ≡ month_number d
month_count-is d day e h =
    let parts = date_parts d day e h in
    rw (parts.0, parts.1) (omega (arith, signed_arith))

-- within the years
pub months_later-inside : (d : Date) (day n : ℤ) → epoch_day d ≡ day → IsDay day → pos 1 ≤ℤ shifted_year d n → shifted_year d n ≤ℤ pos 9999 → Some (add_months d n) ≡ months_later day n
unfolding months_later
months_later-inside d day n e h low high =
    let parts = date_parts d day e h in
    let inside = and_from _ _ (int_le_holds _ _ low) (int_le_holds _ _ high) in
    rw (month_count-is d day e h, ← parts.2, inside) refl

-- and outside them
pub months_later-outside : (d : Date) (day n : ℤ) → epoch_day d ≡ day → IsDay day → (shifted_year d n <ℤ pos 1) ⊎ (pos 9999 <ℤ shifted_year d n) → None ≡ months_later day n
unfolding months_later
months_later-outside d day n e h (inl low) =
    rw (month_count-is d day e h, and_left _ (int_le (shifted_year d n) (pos 9999)) (int_le_fails (pos 1) (shifted_year d n) low)) refl
months_later-outside d day n e h (inr high) =
    rw (month_count-is d day e h, and_right (int_le (pos 1) (shifted_year d n)) _ (int_le_fails (shifted_year d n) (pos 9999) high)) refl

-- where jiff has no such date, it is outside them
pub shift_fails : (d : Date) (n : ℤ) → (IsShiftable d n → ⊥) → (shifted_year d n <ℤ pos 1) ⊎ (pos 9999 <ℤ shifted_year d n)
shift_fails d n h =
    by_lt_z (shifted_year d n) (pos 1) (λ low. inl low)
    (λ ge. by_lt_z (pos 9999) (shifted_year d n) (λ high. inr high)
    (λ le. let can : IsShiftable d n = (omega (arith, signed_arith), le) in absurd (h can)))

-- the year of the date that jiff gives
pub shifted_year-is : (d later : Date) (n : ℤ) → month_number later ≡ month_number d +ℤ n → shifted_year d n ≡ later.year
shifted_year-is d later n e =
    (shift_parts d n later.year later.month (sym e) later.month_in.0 later.month_in.1).0
