use Rattle.std.proofs.Common.{◌≡◌, inl, inr, ◌+ℤ◌, FitsSigned, w32, w64, ◌∙◌, ap, Some, arith}
use Rattle.std.proofs.lemmas.Int.{to_z-of_z}
use Rattle.jiff_core.proofs.SignedLemmas.{signed_arith, signed_casts}
use Rattle.le_base.specs.Ranges.{IsDay}
use Rattle.le_values.proofs.DayLemmas.{days_later-outside, days_later-inside, overflow_outside}
use Rattle.le_values.proofs.day.add_days.Goals as goal
use Rattle.le_values.proofs.day.add_days.Goals.{then-sum-lt-FIRST_DAY-via-then-sum-lt-FIRST_DAY, then-sum-lt-FIRST_DAY-via-else-sum-lt-FIRST_DAY+then-sum-gt-LAST_DAY}

pub returns-in_err-sum-clause-value : goal.returns-in_err-sum-clause-value
returns-in_err-sum-clause-value c =
    let fd : FitsSigned w32 c.args.day = c.ranges.day in
    let fd64 : FitsSigned w64 c.args.day = omega (arith, signed_arith) in
    let fn : FitsSigned w64 c.args.n = c.ranges.n in
    let same : c.from.result ≡ c.args.day = simp to_z-of_z at c.from.ensures in
    let over = simp to_z-of_z at (rw same at c.in_err-sum.ensures) in
    c.from_residual.ensures ∙ days_later-outside c.args.day c.args.n (overflow_outside _ over)

pub returns-then-sum-lt-FIRST_DAY-clause-value : goal.returns-then-sum-lt-FIRST_DAY-clause-value
returns-then-sum-lt-FIRST_DAY-clause-value c =
    let fd : FitsSigned w32 c.args.day = c.ranges.day in
    let fd64 : FitsSigned w64 c.args.day = omega (arith, signed_arith) in
    let fn : FitsSigned w64 c.args.n = c.ranges.n in
    let same : c.from.result ≡ c.args.day = simp to_z-of_z at c.from.ensures in
    let sum = simp to_z-of_z at (rw same at c.in_ok-sum.ensures) in
    let value : c.in_ok-sum.sum ≡ c.args.day +ℤ c.args.n = sum.1 in
    days_later-outside c.args.day c.args.n (rw (← value)
    (elim c.then-sum-lt-FIRST_DAY.branch [
      | then-sum-lt-FIRST_DAY-via-then-sum-lt-FIRST_DAY w ↦ inl (omega (arith, signed_casts))
      | then-sum-lt-FIRST_DAY-via-else-sum-lt-FIRST_DAY+then-sum-gt-LAST_DAY w ↦ inr (omega (arith, signed_casts))
    ]))

pub returns-clause-value : goal.returns-clause-value
returns-clause-value c =
    let fd : FitsSigned w32 c.args.day = c.ranges.day in
    let fd64 : FitsSigned w64 c.args.day = omega (arith, signed_arith) in
    let fn : FitsSigned w64 c.args.n = c.ranges.n in
    let same : c.from.result ≡ c.args.day = simp to_z-of_z at c.from.ensures in
    let sum = simp to_z-of_z at (rw same at c.in_ok-sum.ensures) in
    let value : c.in_ok-sum.sum ≡ c.args.day +ℤ c.args.n = sum.1 in
    let fs : FitsSigned w64 c.in_ok-sum.sum = rw value sum.0 in
    let inside : IsDay c.in_ok-sum.sum = (omega (arith, signed_casts), omega (arith, signed_casts)) in
    let small : FitsSigned w32 c.in_ok-sum.sum = omega (arith, signed_arith) in
    simp to_z-of_z (ap (λ z. Some z) value ∙ days_later-inside c.args.day c.args.n (rw (← value) inside))
