-- What a word of digits is as a number, and that a number's digits are such a word.
use Rattle.std.proofs.Common.{◌≡◌, ℕ, zero, suc, ◌^◌, ◌<◌, ◌≤◌, true, false, ◌&&◌, ⊎_elim, List, [], ◌∷◌, length, drop, Some, None, Ok, Err, ℤ, pos, negsuc, neg_ℤ, unsigned_abs, nat_lt, refl, sym, ap, ◌∙◌, arith, rules, w64}
use Rattle.std.proofs.lemmas.Bool.{cases_Bool, cases_lt, and_parts, and_from, and_left, and_right, lt-leb, le-leb, leb-true, lt-ltb, ltb-true, eqb-true, ne_eqb}
use Rattle.std.proofs.lemmas.Int.{ints}
use Rattle.std.proofs.lemmas.Str.Parse.{IsNumeralModel, numerals_by_value, parse_signed_minus, parse_signed_digits}
use Rattle.std.proofs.lemmas.Fmt.{digits_decimal, digits_value-decimal, decimal_nonempty}
use Rattle.std.specs.Char.{is_ascii_digit}
use Rattle.std.specs.Fmt.{decimal, signed_decimal}
use Rattle.std.specs.List.{list_all}
use Rattle.std.specs.Str.Parse.{digits_value, ParsesSigned}
use Rattle.le_base.specs.Ranges.{IsNumber}
use Rattle.le_values.specs.Numbers.{greatest_number, is_number, has_minus, is_number_word, word_value, number_of}

-- a list of digits, in the words of `parse`
pub numerals : IsNumeralModel (λ ds. list_all is_ascii_digit ds ≡ true) (digits_value 10)
numerals = numerals_by_value _ (search rules)

pub number_of-no_word : (word : List ℕ) → is_number_word word ≡ false → None ≡ number_of word
unfolding number_of
number_of-no_word word h = rw (and_left _ (is_number (word_value word)) h) refl

pub number_of-too_large : (word : List ℕ) → greatest_number < unsigned_abs (word_value word) → None ≡ number_of word
unfolding number_of
number_of-too_large word h =
    let large : is_number (word_value word) ≡ false = lt-leb _ _ h in
    rw (and_right (is_number_word word) _ large) refl

pub number_of-value : (word : List ℕ) → is_number_word word ≡ true → unsigned_abs (word_value word) ≤ greatest_number → Some (word_value word) ≡ number_of word
unfolding number_of
number_of-value word h small =
    let fits : is_number (word_value word) ≡ true = le-leb _ _ small in
    rw (h, fits) refl

-- what `parse` reads of such a word is its value
pub parsed : (E : Type 0) (word : List ℕ) (n : ℤ) → ParsesSigned {E = E} w64 10 word (Ok n) → is_number_word word ≡ true → n ≡ word_value word
parsed E word n h form =
    ⊎_elim (λ minus. rw minus (parse_signed_minus numerals {E = E} w64 word (Ok n) h (eqb-true _ _ minus)).1)
    (λ plain.
    let digits = (and_parts _ _ (rw plain at form)).1 in
    rw plain (parse_signed_digits numerals {E = E} w64 word (Ok n) h digits).1)
    (cases_Bool (has_minus word))

abs_neg : (n : ℕ) → unsigned_abs (neg_ℤ (pos n)) ≡ n
abs_neg zero = refl
abs_neg (suc n) = refl

below : {a b : ℕ} → a < b → a ≤ b
below h = omega arith

beyond : (n : ℕ) → (n < 2 ^ 63 → ⊥) → greatest_number < n
beyond n h = ⊎_elim (λ (lt : n < 2 ^ 63). absurd (h lt)) (λ (ge : 2 ^ 63 ≤ n). omega arith) (cases_lt n (2 ^ 63))

-- and where it fails at one, the value is far too large
pub unparsed : (E : Type 0) (word : List ℕ) (e : E) → ParsesSigned {E = E} w64 10 word (Err e) → is_number_word word ≡ true → greatest_number < unsigned_abs (word_value word)
unparsed E word e h form =
    ⊎_elim (λ minus.
    let parts = and_parts _ _ (rw minus at form) in
    let fails = parse_signed_minus numerals {E = E} w64 word (Err e) h (eqb-true _ _ minus) in
    rw minus (rw (abs_neg (digits_value 10 (drop 1 word)))
    (beyond _ (λ (fits : digits_value 10 (drop 1 word) < 2 ^ 63). let within : digits_value 10 (drop 1 word) ≤ 2 ^ 63 = below fits in fails (parts.1, ltb-true 0 (length (drop 1 word)) parts.0, within)))))
    (λ plain.
    let parts = and_parts _ _ (rw plain at form) in
    let fails = parse_signed_digits numerals {E = E} w64 word (Err e) h parts.1 in
    rw plain
    (beyond _ (λ fits. let below : digits_value 10 word < 2 ^ 63 = fits in fails (ltb-true _ _ parts.0, below))))
    (cases_Bool (has_minus word))

-- a list of digits begins with no minus sign
pub digits_have_no_minus : (ds : List ℕ) → list_all is_ascii_digit ds ≡ true → has_minus ds ≡ false
digits_have_no_minus [] h = refl
digits_have_no_minus (c ∷ cs) h =
    let low : 48 ≤ c = leb-true _ _ (and_parts _ _ (and_parts _ _ h).0).0 in
    ne_eqb c 45 (λ e. absurd (omega arith))

in_range : (n : ℤ) → IsNumber n → unsigned_abs n ≤ greatest_number
in_range (pos n) h = omega (arith, ints)
in_range (negsuc n) h = omega (arith, ints)

is_word : (ds : List ℕ) → list_all is_ascii_digit ds ≡ true → 0 < length ds → (nat_lt 0 (length ds) && list_all is_ascii_digit ds) ≡ true
is_word ds h some = and_from _ _ (lt-ltb 0 (length ds) some) h

-- the decimal digits of a number are a word that is that number
pub written : (n : ℤ) → IsNumber n → number_of (signed_decimal n) ≡ Some n
written (pos n) h =
    let small : n < 2 ^ 64 = omega (arith, in_range (pos n) h) in
    let ds = decimal n in
    let digits : list_all is_ascii_digit (decimal n) ≡ true = digits_decimal numerals n small in
    let plain = digits_have_no_minus (decimal n) digits in
    let value : word_value (decimal n) ≡ pos n = rw plain (rw (digits_value-decimal numerals n small) refl) in
    let form : is_number_word (decimal n) ≡ true = rw plain (is_word (decimal n) digits (decimal_nonempty n small)) in
    sym (number_of-value (decimal n) form (rw value (in_range (pos n) h))) ∙ ap (λ z. Some z) value
written (negsuc n) h =
    let small : suc n < 2 ^ 64 = omega (arith, in_range (negsuc n) h) in
    let word = 45 ∷ decimal (suc n) in
    let digits : list_all is_ascii_digit (decimal (suc n)) ≡ true = digits_decimal numerals (suc n) small in
    let value : word_value (45 ∷ decimal (suc n)) ≡ negsuc n = rw (digits_value-decimal numerals (suc n) small) refl in
    let form : is_number_word (45 ∷ decimal (suc n)) ≡ true = is_word (decimal (suc n)) digits (decimal_nonempty (suc n) small) in
    sym (number_of-value (45 ∷ decimal (suc n)) form (rw value (in_range (negsuc n) h))) ∙ ap (λ z. Some z) value
