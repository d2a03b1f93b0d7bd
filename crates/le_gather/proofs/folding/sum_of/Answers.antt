use Rattle.std.proofs.Common.{◌≡◌, ◌^◌, ◌-◌, pos, negsuc, ◌+ℤ◌, ◌≤ℤ◌, refl, ap, ◌∙◌, drop, ◌+◌, w64, FitsSigned, to_z, of_z, arith}
use Rattle.std.specs.Int.{w128}
use Rattle.std.proofs.lemmas.Int.{to_z-of_z, ints}
use Rattle.le_gather.specs.Folds.{with_numbers, in_range}
use Rattle.le_gather.proofs.Numbers.{number-next}
use Rattle.le_gather.proofs.folding.sum_of.Goals as goal

pub loop-value-preserved : goal.loop-value-preserved
loop-value-preserved c =
    let is = c.in-Ok.ensures.number in
    let above : negsuc (10 ^ 18 - 1) ≤ℤ c.in-Ok.n = is.1.0 in
    let below : c.in-Ok.n ≤ℤ pos (10 ^ 18) = is.1.1 in
    let fits : FitsSigned w64 c.in-Ok.n = omega (arith, ints, above, below) in
    let same : c.from-sum.result ≡ c.in-Ok.n = simp to_z-of_z at c.from-sum.ensures in
    let fits128 : FitsSigned w128 c.in-Ok.n = omega (arith, ints, above, below) in
    let few = c.requires in
    let inside = c.loop-value-test.true in
    let low = c.loop-value.invariant.low in
    let high = c.loop-value.invariant.high in
    let sum_fits : FitsSigned w128 (to_z w128 c.loop-value.sum-bits +ℤ c.in-Ok.n) = omega (arith, ints, above, below, low, high, inside, few) in
    let total : to_z w128 (of_z w128 (to_z w128 c.loop-value.sum-bits +ℤ to_z w128 (of_z w128 c.from-sum.result))) ≡ to_z w128 c.loop-value.sum-bits +ℤ c.in-Ok.n =
    rw same (simp to_z-of_z refl) in
    record {
      same = ap (λ z. with_numbers (λ x y. x +ℤ y) in_range z (drop (c.loop-value.value-index + 1) c.args.values.now)) total
          ∙ (number-next (λ x y. x +ℤ y) in_range (to_z w128 c.loop-value.sum-bits) c.in-Ok.n c.args.values.now c.loop-value.value-index c.value-item.result inside c.value-item.is is.0
          ∙ c.loop-value.invariant.same);
      low = rw total (omega (arith, ints, above, low));
      high = rw total (omega (arith, ints, below, high));
    }
