-- Comparisons of numbers and arithmetic on them.
use Rattle.std.specs.Prelude.{suc, Bool, ℤ, pos, negsuc, neg_ℤ, ◌*ℤ◌, ◌≤ℤ◌, ◌↔◌, int_lt, int_le}
use Rattle.std.specs.Int.{int_div_euclid}
use Rattle.le_builtins.specs.declared.sentences.Comparison.{Comparison}
use Rattle.le_builtins.specs.declared.sentences.Comparison.TheVariants.{GreaterThan, LessThan, AtLeast, AtMost}

-- whether two values compare so
abbrev pub compares : Comparison → ℤ → ℤ → Bool
compares GreaterThan x y = int_lt y x
compares LessThan x y = int_lt x y
compares AtLeast x y = int_le y x
compares AtMost x y = int_le x y

-- the floor of x over y, which isn't 0: with a positive divisor the quotient whose remainder isn't negative, and with a negative one that of both negated
abbrev pub floor_quotient : ℤ → ℤ → ℤ
floor_quotient x (pos b) = int_div_euclid x (pos b)
floor_quotient x (negsuc b) = int_div_euclid (neg_ℤ x) (pos (suc b))

-- k is at most the quotient of x by y: k times the divisor isn't beyond x, seen in the divisor's direction
abbrev pub IsAtMostQuotient : ℤ → ℤ → ℤ → Type 0
IsAtMostQuotient k x (pos b) = (k *ℤ pos b) ≤ℤ x
IsAtMostQuotient k x (negsuc b) = x ≤ℤ (k *ℤ negsuc b)

-- q is the greatest whole number that is at most the quotient of x by y
abbrev pub IsFloor : ℤ → ℤ → ℤ → Type 0
IsFloor x y q = (k : ℤ) → (k ≤ℤ q) ↔ IsAtMostQuotient k x y
