-- The floor of a quotient is the greatest whole number that is at most the quotient.
use Rattle.std.proofs.Common.{◌≡◌, ◌≢◌, ℕ, zero, suc, ◌*◌, ◌/◌, ◌<◌, ◌≤◌, ◌↔◌, ℤ, pos, negsuc, neg_ℤ, ◌*ℤ◌, ◌≤ℤ◌, refl, arith}
use Rattle.std.proofs.lemmas.Int.{ints}
use Rattle.std.proofs.Math.Nat.{le-div_iff_mul-le, div-lt_iff_lt-mul}
use Rattle.std.specs.Int.{int_div_euclid}
use Rattle.le_builtins.specs.Numbers.{floor_quotient, IsFloor}

-- two whole numbers, both negated
negated-pos : (m a : ℕ) → m ≤ a → neg_ℤ (pos a) ≤ℤ neg_ℤ (pos m)
negated-pos m a h = omega (arith, ints)

negated-negsuc : (m a : ℕ) → suc a ≤ m → neg_ℤ (pos m) ≤ℤ negsuc a
negated-negsuc m a h = omega (arith, ints)

negated-back : (m a : ℕ) → neg_ℤ (pos m) ≤ℤ negsuc a → suc a ≤ m
negated-back m a h = omega (arith, ints)

negated-below : (m a : ℕ) → neg_ℤ (pos m) ≤ℤ pos a
negated-below m a = omega (arith, ints)

-- with a positive divisor
floor-positive : (x : ℤ) (b : ℕ) → 0 < b → (k : ℤ) → (k ≤ℤ int_div_euclid x (pos b)) ↔ ((k *ℤ pos b) ≤ℤ x)
floor-positive (pos a) b some (pos j) =
    let both : (j ≤ a / b) ↔ (j * b ≤ a) = le-div_iff_mul-le some in (
      λ below. let n : j ≤ a / b = omega (arith, ints) in let m : j * b ≤ a = both.0 n in omega (arith, ints),
      λ below. let m : j * b ≤ a = omega (arith, ints) in let n : j ≤ a / b = both.1 m in omega (arith, ints),
    )
floor-positive (pos a) b some (negsuc j) = (λ below. negated-below (suc j * b) a, λ below. omega (arith, ints))
floor-positive (negsuc a) b some (pos j) = (λ below. absurd (omega (arith, ints)), λ below. absurd (omega (arith, ints)))
floor-positive (negsuc a) b some (negsuc j) =
    let both : (a / b < suc j) ↔ (a < suc j * b) = div-lt_iff_lt-mul some in (
      λ below. let n : a / b < suc j = omega (arith, ints) in let m : a < suc j * b = both.0 n in negated-negsuc (suc j * b) a (omega arith),
      λ below. let m : suc a ≤ suc j * b = negated-back (suc j * b) a below in let n : a / b < suc j = both.1 (omega arith) in omega (arith, ints),
    )

-- a product with a negative divisor
turned : (k : ℤ) (b : ℕ) → k *ℤ negsuc b ≡ neg_ℤ (k *ℤ pos (suc b))
turned (pos j) b = refl
turned (negsuc j) b = double (suc j * suc b)
  where
    double : (n : ℕ) → pos n ≡ neg_ℤ (neg_ℤ (pos n))
    double zero = refl
    double (suc n) = refl

turn : (p x : ℤ) → p ≤ℤ neg_ℤ x → x ≤ℤ neg_ℤ p
turn p x h = omega (arith, ints)

turn-back : (p x : ℤ) → x ≤ℤ neg_ℤ p → p ≤ℤ neg_ℤ x
turn-back p x h = omega (arith, ints)

pub floor_quotient-is : (x y : ℤ) → y ≢ pos 0 → IsFloor x y (floor_quotient x y)
floor_quotient-is x (pos zero) some k = absurd (some refl)
floor_quotient-is x (pos (suc b)) some k = floor-positive x (suc b) (omega arith) k
floor_quotient-is x (negsuc b) some k =
    let both : (k ≤ℤ int_div_euclid (neg_ℤ x) (pos (suc b))) ↔ ((k *ℤ pos (suc b)) ≤ℤ neg_ℤ x) = floor-positive (neg_ℤ x) (suc b) (omega arith) k in
    let product : k *ℤ negsuc b ≡ neg_ℤ (k *ℤ pos (suc b)) = turned k b in (
      λ below. rw product (turn (k *ℤ pos (suc b)) x (both.0 below)),
      λ below. both.1 (turn-back (k *ℤ pos (suc b)) x (rw product at below)),
    )

-- and so is what equals it
pub IsFloor-is : (x y q : ℤ) → y ≢ pos 0 → q ≡ floor_quotient x y → IsFloor x y q
IsFloor-is x y q some same = rw same (floor_quotient-is x y some)
