-- What numbers are read from some bytes, and that each number's digits read back.
use Rattle.std.proofs.Common.{◌≡◌, ℕ, suc, ◌^◌, ◌<◌, ◌≤◌, true, ⊎_elim, List, Option, Some, None, ℤ, pos, negsuc, unsigned_abs, refl, ap, subst, arith, lit<}
use Rattle.std.proofs.lemmas.Bool.{cases_Bool, le-leb, leb-true, and_parts, and_from, lt-ltb, ltb-true}
use Rattle.std.proofs.lemmas.Fmt.{digits_decimal, digits_value-decimal, IsAscii-decimal}
use Rattle.std.proofs.lemmas.Slice.Eq.{bytes_eq-Decides}
use Rattle.std.specs.Char.{is_ascii_digit}
use Rattle.std.specs.Fmt.{decimal, signed_decimal}
use Rattle.std.specs.List.{list_all}
use Rattle.std.specs.Str.{bytes_eq}
use Rattle.std.specs.Str.Parse.{digits_value}
use Rattle.std.proofs.lemmas.Option.{option_and_then_some, cond_some}
use Rattle.le_base.specs.Ranges.{IsNumber, IsDay}
use Rattle.le_values.proofs.NumberLemmas.{numerals, written}
use Rattle.le_values.specs.Numbers.{greatest_number, is_number, is_number_word, number_of, word_value}
use Rattle.std.proofs.lemmas.Int.{ints}
use Rattle.std.proofs.lemmas.Str.{IsUtf8-from_ascii}
use Rattle.std.proofs.lemmas.Str.Ascii.{IsAscii-cons}
use Rattle.std.specs.Str.{IsUtf8}
use Rattle.le_prooftext.specs.Reading.{is_natural, natural_of, if_small, small_of, if_spelled, whole_of, is_day, if_day, day_of}
use Rattle.le_prooftext.specs.Words.{greatest_small}

-- equal bytes are equal in the test, and those that are equal there are equal
pub bytes_same : (xs ys : List ℕ) → xs ≡ ys → bytes_eq xs ys ≡ true
bytes_same xs ys same = (bytes_eq-Decides xs ys).1 same

pub same_bytes : (xs ys : List ℕ) → bytes_eq xs ys ≡ true → xs ≡ ys
same_bytes xs ys equal = (bytes_eq-Decides xs ys).0 equal

-- what is never some value is none
pub not_some : {X : Type 0} (o : Option X) → ((x : X) → o ≡ Some x → ⊥) → o ≡ None
not_some None never = refl
not_some (Some x) never = absurd (never x refl)

is_natural-decimal : (n : ℕ) → n < 2 ^ 64 → is_natural (decimal n) ≡ true
is_natural-decimal n h =
    let value : digits_value 10 (decimal n) ≡ n = digits_value-decimal numerals n h in
    let digits : list_all is_ascii_digit (decimal n) ≡ true = digits_decimal numerals n h in
    and_from _ _ (and_from _ _ digits (rw value (lt-ltb n (2 ^ 64) h))) (rw value (bytes_same (decimal n) (decimal n) refl))

pub natural_of-decimal : (n : ℕ) → n < 2 ^ 64 → natural_of (decimal n) ≡ Some n
unfolding natural_of
natural_of-decimal n h = rw (is_natural-decimal n h) (ap Some (digits_value-decimal numerals n h))

pub natural_of-none : (bytes : List ℕ) → ((n : ℕ) → n < 2 ^ 64 → decimal n ≡ bytes → ⊥) → natural_of bytes ≡ None
unfolding natural_of
natural_of-none bytes never =
    ⊎_elim (λ holds.
    let parts = and_parts _ _ holds in
    absurd (never (digits_value 10 bytes) (ltb-true _ _ (and_parts _ _ parts.0).1) (same_bytes _ _ parts.1)))
    (λ fails. rw fails refl)
    (cases_Bool (is_natural bytes))

pub natural_of-some : (bytes : List ℕ) (n : ℕ) → natural_of bytes ≡ Some n → (decimal n ≡ bytes) × (n < 2 ^ 64)
unfolding natural_of
natural_of-some bytes n is =
    ⊎_elim (λ holds.
    let parts = and_parts _ _ holds in
    let value : digits_value 10 bytes ≡ n = cc (rw holds at is) in
    (subst (λ (m : ℕ). decimal m ≡ bytes) value (same_bytes _ _ parts.1), subst (λ (m : ℕ). m < 2 ^ 64) value (ltb-true _ _ (and_parts _ _ parts.0).1)))
    (λ fails. absurd (cc (rw fails at is)))
    (cases_Bool (is_natural bytes))

pub small_of-decimal : (n : ℕ) → n ≤ greatest_small → small_of (decimal n) ≡ Some n
unfolding small_of
small_of-decimal n h =
    let small : n < 2 ^ 64 = omega arith in
    rw (natural_of-decimal n small, le-leb n greatest_small h) refl

pub small_of-some : (bytes : List ℕ) (n : ℕ) → small_of bytes ≡ Some n → (decimal n ≡ bytes) × (n ≤ greatest_small)
unfolding small_of
small_of-some bytes n is =
    option_and_then_some if_small (natural_of bytes) n is (λ m read fits.
    let found = cond_some _ m n fits in
    (subst (λ (k : ℕ). decimal k ≡ bytes) found.1 (natural_of-some bytes m read).0, subst (λ (k : ℕ). k ≤ greatest_small) found.1 (leb-true _ _ found.0)))

-- the whole number that some bytes spell
number_of-some : (bytes : List ℕ) (z : ℤ) → number_of bytes ≡ Some z → unsigned_abs z ≤ greatest_number
unfolding number_of
number_of-some bytes z is =
    let found = cond_some _ (word_value bytes) z is in
    subst (λ (y : ℤ). unsigned_abs y ≤ greatest_number) found.1 (leb-true _ _ (and_parts (is_number_word bytes) (is_number (word_value bytes)) found.0).1)

in_range : (z : ℤ) → unsigned_abs z ≤ greatest_number → IsNumber z
in_range (pos n) h = (omega (arith, ints), omega (arith, ints))
in_range (negsuc n) h = (omega (arith, ints), omega (arith, ints))

pub whole_of-some : (bytes : List ℕ) (z : ℤ) → whole_of bytes ≡ Some z → (signed_decimal z ≡ bytes) × IsNumber z
unfolding whole_of
whole_of-some bytes z is =
    option_and_then_some (if_spelled bytes) (number_of bytes) z is (λ y read fits.
    let found = cond_some _ y z fits in
    (subst (λ (k : ℤ). signed_decimal k ≡ bytes) found.1 (same_bytes _ _ found.0), subst IsNumber found.1 (in_range y (number_of-some bytes y read))))

-- the digits of a number are a text
pub IsUtf8-signed_decimal : (z : ℤ) → IsNumber z → IsUtf8 (signed_decimal z)
IsUtf8-signed_decimal (pos n) h = IsUtf8-from_ascii _ (IsAscii-decimal n (omega (arith, ints)))
IsUtf8-signed_decimal (negsuc n) h = IsUtf8-from_ascii _ (IsAscii-cons 45 _ (lit< tt) (IsAscii-decimal (suc n) (omega (arith, ints))))

pub whole_of-no_text : (bytes : List ℕ) → (IsUtf8 bytes → ⊥) → whole_of bytes ≡ None
whole_of-no_text bytes never =
    not_some (whole_of bytes) (λ z is. let found = whole_of-some bytes z is in never (subst IsUtf8 found.0 (IsUtf8-signed_decimal z found.1)))

pub whole_of-decimal : (z : ℤ) → IsNumber z → whole_of (signed_decimal z) ≡ Some z
unfolding whole_of
whole_of-decimal z h = rw (written z h, bytes_same (signed_decimal z) (signed_decimal z) refl) refl

pub is_day-true : (z : ℤ) → is_day z ≡ true → IsDay z
is_day-true (pos n) h = (omega (arith, ints), omega (arith, ints, leb-true n 2932896 h))
is_day-true (negsuc n) h = (omega (arith, ints, ltb-true n 719162 h), omega (arith, ints))

pub true-is_day : (z : ℤ) → IsDay z → is_day z ≡ true
true-is_day (pos n) h = le-leb n 2932896 (omega (arith, ints, h.1))
true-is_day (negsuc n) h = lt-ltb n 719162 (omega (arith, ints, h.0))

pub day_of-decimal : (z : ℤ) → IsDay z → day_of (signed_decimal z) ≡ Some z
unfolding day_of
day_of-decimal z h =
    let wide : IsNumber z = (omega (arith, ints, h.0), omega (arith, ints, h.1)) in
    rw (whole_of-decimal z wide, true-is_day z h) refl

pub day_of-some : (bytes : List ℕ) (z : ℤ) → day_of bytes ≡ Some z → (signed_decimal z ≡ bytes) × IsDay z
unfolding day_of
day_of-some bytes z is =
    option_and_then_some if_day (whole_of bytes) z is (λ y read fits.
    let found = cond_some _ y z fits in
    (subst (λ (k : ℤ). signed_decimal k ≡ bytes) found.1 (whole_of-some bytes y read).0, subst IsDay found.1 (is_day-true y found.0)))
