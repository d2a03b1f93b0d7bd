use Rattle.std.proofs.Common.{◌≤◌, pos, ◌≤ℤ◌, FitsSigned, w32, arith, rules}
use Rattle.std.proofs.lemmas.Int.{to_z-of_z}
use Rattle.jiff_core.proofs.SignedLemmas.{signed_casts}
use Rattle.jiff_core.specs.Date.{IsYmd}
use Rattle.le_values.proofs.DayLemmas.{day_of_date-is, day_in_years}
use Rattle.le_values.proofs.day.day_of_date.Goals as goal

pub returns-clause-value : goal.returns-clause-value
returns-clause-value c =
    let low : 1 ≤ c.args.year = omega arith in
    let parts = c.in-Ok.ensures.value in
    let is : IsYmd (pos c.args.year) (pos c.args.month) (pos c.args.day) c.in-Ok.date =
    (omega (arith, signed_casts, parts.0), omega (arith, signed_casts, parts.1), omega (arith, signed_casts, parts.2)) in
    let fits : FitsSigned w32 c.to_unix_epoch_day.result = search rules in
    simp to_z-of_z (rw c.to_unix_epoch_day.ensures.value (day_of_date-is c.args.year c.args.month c.args.day c.in-Ok.date low is))

pub returns-clause-in_years : goal.returns-clause-in_years
returns-clause-in_years c =
    let low : pos 1 ≤ℤ c.in-Ok.date.year = omega (arith, signed_casts, c.in-Ok.ensures.value.0) in
    let fits : FitsSigned w32 c.to_unix_epoch_day.result = search rules in
    simp to_z-of_z (rw c.to_unix_epoch_day.ensures.value (day_in_years c.in-Ok.date low))
