use Rattle.std.proofs.Common.{◌≡◌, inl, inr, pos, ◌+ℤ◌, ◌≤ℤ◌, Some, FitsSigned, w32, w64, sym, ap, ◌∙◌, true≢false, arith}
use Rattle.std.proofs.lemmas.Int.{to_z-of_z}
use Rattle.jiff_core.specs.Date.{epoch_day}
use Rattle.jiff_core.proofs.SignedLemmas.{signed_arith, signed_casts}
use Rattle.jiff_span.specs.Months.{month_number, shifted_year, add_months}
use Rattle.le_values.proofs.DayLemmas.{day_in_years}
use Rattle.le_values.proofs.MonthLemmas.{months_later-inside, months_later-outside, shift_fails, shifted_year-is}
use Rattle.le_values.proofs.month.add_months.Goals as goal
use Rattle.le_values.proofs.month.add_months.Goals.{then-n-via-then-n, then-n-via-else-n+then-n-gt-MOST_MONTHS}

pub returns-then-n-clause-value : goal.returns-then-n-clause-value
returns-then-n-clause-value c =
    let fd : FitsSigned w32 c.args.day = c.ranges.day in
    let fn : FitsSigned w64 c.args.n = c.ranges.n in
    let d = c.date_at-start.result in
    let number : epoch_day c.date_at-start.result ≡ c.args.day = simp to_z-of_z at c.date_at-start.ensures.number in
    let year = c.date_at-start.ensures.year in
    let year_in = c.date_at-start.result.year_in in
    let month_in = c.date_at-start.result.month_in in
    months_later-outside c.date_at-start.result c.args.day c.args.n number c.requires
    (elim c.then-n.branch [
      | then-n-via-then-n w ↦ inl (omega (arith, signed_casts))
      | then-n-via-else-n+then-n-gt-MOST_MONTHS w ↦ inr (omega (arith, signed_casts))
    ])

pub returns-in_default-clause-value : goal.returns-in_default-clause-value
returns-in_default-clause-value c =
    let fd : FitsSigned w32 c.args.day = c.ranges.day in
    let fn : FitsSigned w64 c.args.n = c.ranges.n in
    let small : FitsSigned w32 c.args.n = omega (arith, signed_casts) in
    let number : epoch_day c.date_at-start.result ≡ c.args.day = simp to_z-of_z at c.date_at-start.ensures.number in
    let succeeds = simp to_z-of_z at c.in_default.ensures.succeeds in
    months_later-outside c.date_at-start.result c.args.day c.args.n number c.requires
    (shift_fails c.date_at-start.result c.args.n (λ can. true≢false (sym (succeeds.1 can))))

pub returns-then-later-lt1-clause-value : goal.returns-then-later-lt1-clause-value
returns-then-later-lt1-clause-value c =
    let fd : FitsSigned w32 c.args.day = c.ranges.day in
    let fn : FitsSigned w64 c.args.n = c.ranges.n in
    let small : FitsSigned w32 c.args.n = omega (arith, signed_casts) in
    let number : epoch_day c.date_at-start.result ≡ c.args.day = simp to_z-of_z at c.date_at-start.ensures.number in
    let month : month_number c.in-Ok.later ≡ month_number c.date_at-start.result +ℤ c.args.n = simp to_z-of_z at c.in-Ok.ensures.month in
    let year = shifted_year-is c.date_at-start.result c.in-Ok.later c.args.n month in
    months_later-outside c.date_at-start.result c.args.day c.args.n number c.requires
    (inl (rw year (omega (arith, signed_casts))))

pub returns-clause-value : goal.returns-clause-value
returns-clause-value c =
    let fd : FitsSigned w32 c.args.day = c.ranges.day in
    let fn : FitsSigned w64 c.args.n = c.ranges.n in
    let small : FitsSigned w32 c.args.n = omega (arith, signed_casts) in
    let number : epoch_day c.date_at-start.result ≡ c.args.day = simp to_z-of_z at c.date_at-start.ensures.number in
    let month : month_number c.in-Ok.later ≡ month_number c.date_at-start.result +ℤ c.args.n = simp to_z-of_z at c.in-Ok.ensures.month in
    let value : epoch_day c.in-Ok.later ≡ add_months c.date_at-start.result c.args.n = simp to_z-of_z at c.in-Ok.ensures.value in
    let year = shifted_year-is c.date_at-start.result c.in-Ok.later c.args.n month in
    let year_in = c.in-Ok.later.year_in in
    let low : pos 1 ≤ℤ shifted_year c.date_at-start.result c.args.n = rw year (omega (arith, signed_casts)) in
    let high : shifted_year c.date_at-start.result c.args.n ≤ℤ pos 9999 = rw year (omega (arith, signed_arith)) in
    let fits : FitsSigned w32 c.to_unix_epoch_day.result = omega (arith, signed_arith, c.to_unix_epoch_day.ensures.bound) in
    simp to_z-of_z (ap (λ z. Some z) (c.to_unix_epoch_day.ensures.value ∙ value)
    ∙ months_later-inside c.date_at-start.result c.args.day c.args.n number c.requires low high)

pub returns-clause-in_years : goal.returns-clause-in_years
returns-clause-in_years c =
    let low : pos 1 ≤ℤ c.in-Ok.later.year = omega (arith, signed_casts) in
    let fits : FitsSigned w32 c.to_unix_epoch_day.result = omega (arith, signed_arith, c.to_unix_epoch_day.ensures.bound) in
    simp to_z-of_z (rw c.to_unix_epoch_day.ensures.value (day_in_years c.in-Ok.later low))
