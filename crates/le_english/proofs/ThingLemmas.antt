-- The names of variables in a text.
use Rattle.std.proofs.Common.{◌≡◌, ◌==◌, ℕ, zero, suc, ◌+◌, ◌^◌, ◌<◌, nat_lt, true, false, cond, ◌||◌, List, [], ◌∷◌, ◌++◌, map, length, take, drop, codes, decimal, Some, None, sym, refl, ap, ap₂, ◌∙◌, ⊎_elim, arith}
use Rattle.std.specs.Char.{is_ascii_digit, to_ascii_lowercase, digit_value}
use Rattle.std.specs.List.{list_all, list_any, position_from}
use Rattle.std.specs.Str.{bytes_eq}
use Rattle.std.proofs.lemmas.Bool.{cases_Bool, cond-true, cond-false, and_parts, and_from, or_parts, both_ways, false_from_ne_true, eqb-true, eq-eqb}
use Rattle.std.proofs.lemmas.Bool.Decides.{nat_tests}
use Rattle.std.proofs.lemmas.List.{take-map}
use Rattle.std.proofs.lemmas.Slice.Eq.{bytes_eq-Decides}
use Rattle.std.proofs.lemmas.Fmt.{decimal_is_IsNumeral, decimal_injective}
use Rattle.std.specs.Str.Parse.{AllDigits}
use Rattle.le_layout.specs.Words.{same_word}
use Rattle.le_english.specs.Phrases.{is_numbered_thing}
use Rattle.le_english.specs.Atoms.{thing_name, index_of}

lower-digit : (c : ℕ) → is_ascii_digit c ≡ true → to_ascii_lowercase c ≡ c
lower-digit c h =
    let small : c < 65 = grind (arith, nat_tests, h) in
    let yes : nat_lt c 65 ≡ true = grind (arith, nat_tests, small) in
    cond-true (nat_lt c 65) _ _ yes

digit-lower : (c : ℕ) → is_ascii_digit (to_ascii_lowercase c) ≡ true → is_ascii_digit c ≡ true
digit-lower c h =
    ⊎_elim (λ k. ap is_ascii_digit (sym (cond-true (nat_lt c 65) _ _ k)) ∙ h)
    (λ k. let e = cond-false (nat_lt c 65) c (cond (nat_lt c 91) (c + 32) c) k in
    ⊎_elim (λ l. absurd (big c (ap is_ascii_digit (sym (e ∙ cond-true (nat_lt c 91) (c + 32) c l)) ∙ h) k))
    (λ l. ap is_ascii_digit (sym (e ∙ cond-false (nat_lt c 91) (c + 32) c l)) ∙ h)
    (cases_Bool (nat_lt c 91)))
    (cases_Bool (nat_lt c 65))
  where
    big : (c : ℕ) → is_ascii_digit (c + 32) ≡ true → nat_lt c 65 ≡ false → ⊥
    big c d k = grind (arith, nat_tests, d, k)

lower-digits : (xs : List ℕ) → list_all is_ascii_digit xs ≡ true → map to_ascii_lowercase xs ≡ xs
lower-digits [] h = refl
lower-digits (x ∷ xs) h = let both = and_parts (is_ascii_digit x) (list_all is_ascii_digit xs) h in ap₂ (λ y ys. y ∷ ys) (lower-digit x both.0) (lower-digits xs both.1)

digits-lower : (xs : List ℕ) → list_all is_ascii_digit (map to_ascii_lowercase xs) ≡ true → list_all is_ascii_digit xs ≡ true
digits-lower [] h = refl
digits-lower (x ∷ xs) h = let both = and_parts (is_ascii_digit (to_ascii_lowercase x)) (list_all is_ascii_digit (map to_ascii_lowercase xs)) h in and_from _ _ (digit-lower x both.0) (digits-lower xs both.1)

abbrev thing : List ℕ → List ℕ
thing digits = codes "thing " ++ digits

same-lower : (a b : List ℕ) → same_word a b ≡ true → map to_ascii_lowercase a ≡ map to_ascii_lowercase b
same-lower a b h = (bytes_eq-Decides (map to_ascii_lowercase a) (map to_ascii_lowercase b)).0 h

-- two variables have different names
pub things-same : (d e : List ℕ) → list_all is_ascii_digit d ≡ true → list_all is_ascii_digit e ≡ true → same_word (thing d) (thing e) ≡ true → d ≡ e
things-same d e p q h = sym (lower-digits d p) ∙ ap (drop 6) (same-lower (thing d) (thing e) h) ∙ lower-digits e q

-- a name that is a variable's, ASCII case ignored, is `thing` and digits
drop-map : (f : ℕ → ℕ) (n : ℕ) (xs : List ℕ) → drop n (map f xs) ≡ map f (drop n xs)
drop-map f zero xs = refl
drop-map f (suc n) [] = refl
drop-map f (suc n) (x ∷ xs) = drop-map f n xs

length-lower : (xs : List ℕ) → length (map to_ascii_lowercase xs) ≡ length xs
length-lower [] = refl
length-lower (x ∷ xs) = omega (arith, length-lower xs)

pub numbered-name : (name d : List ℕ) → list_all is_ascii_digit d ≡ true → 0 < length d → same_word name (thing d) ≡ true → is_numbered_thing name ≡ true
numbered-name name d p some h =
    let e = same-lower name (thing d) h in
    let front : map to_ascii_lowercase (take 6 name) ≡ map to_ascii_lowercase (codes "thing ") = sym (take-map to_ascii_lowercase 6 name) ∙ ap (take 6) e in
    let back : map to_ascii_lowercase (drop 6 name) ≡ map to_ascii_lowercase d = sym (drop-map to_ascii_lowercase 6 name) ∙ ap (drop 6) e in
    let long : 0 < length (drop 6 name) = omega (arith, some, ap length back, length-lower (drop 6 name), length-lower d) in
    let yes : nat_lt 0 (length (drop 6 name)) ≡ true = grind (arith, nat_tests, long) in
    and_from _ _ ((bytes_eq-Decides (map to_ascii_lowercase (take 6 name)) (map to_ascii_lowercase (codes "thing "))).1 front)
    (and_from _ _ yes (digits-lower (drop 6 name) (ap (list_all is_ascii_digit) (back ∙ lower-digits d p) ∙ p)))

-- a decimal is digits
pub decimal-some : (k : ℕ) → k < 2 ^ 64 → 0 < length (decimal k)
decimal-some k h = (decimal_is_IsNumeral k h).0.0

small-digit : (c : ℕ) → digit_value c < 10 → is_ascii_digit c ≡ true
small-digit c h = grind (arith, nat_tests, h)

all-digits : (xs : List ℕ) → AllDigits 10 xs → list_all is_ascii_digit xs ≡ true
all-digits [] h = refl
all-digits (x ∷ xs) h = and_from _ _ (small-digit x h.0) (all-digits xs h.1)

pub decimal-digits : (k : ℕ) → k < 2 ^ 64 → list_all is_ascii_digit (decimal k) ≡ true
decimal-digits k h = all-digits (decimal k) (decimal_is_IsNumeral k h).0.1

same-refl : (xs : List ℕ) → bytes_eq xs xs ≡ true
same-refl [] = refl
same-refl (x ∷ xs) = and_from _ _ (eq-eqb x x refl) (same-refl xs)

-- so a variable's name is found by its number
pub same-thing : (k m : ℕ) → k < 2 ^ 64 → m < 2 ^ 64 → same_word (thing_name k) (thing_name m) ≡ (k == m)
same-thing k m small low =
    ⊎_elim (λ h. ap (λ n. same_word (thing_name k) (thing_name n)) (sym (eqb-true k m h)) ∙ same-refl (map to_ascii_lowercase (thing_name k)) ∙ sym h)
    (λ h. false_from_ne_true (same_word (thing_name k) (thing_name m)) (λ e.
    let same = decimal_injective k m small low (things-same (decimal k) (decimal m) (decimal-digits k small) (decimal-digits m low) e) in
    both_ways (k == m) h (eq-eqb k m same)) ∙ sym h)
    (cases_Bool (k == m))

abbrev pub AllSmall : List ℕ → Type 0
AllSmall [] = Unit {0}
AllSmall (k ∷ ks) = (k < 2 ^ 64) × AllSmall ks

pub place-thing : (k i : ℕ) (ks : List ℕ) → k < 2 ^ 64 → AllSmall ks → position_from (same_word (thing_name k)) i (map thing_name ks) ≡ position_from (λ m. k == m) i ks
place-thing k i [] small all = refl
place-thing k i (m ∷ ms) small all =
    ap₂ (λ b o. cond b (Some i) o) (same-thing k m small all.0) (place-thing k (i + 1) ms small all.1)

-- and a name that is no numbered thing is no variable's
pub place-other : (name : List ℕ) (i : ℕ) (ks : List ℕ) → is_numbered_thing name ≡ false → AllSmall ks → position_from (same_word name) i (map thing_name ks) ≡ None
place-other name i [] h all = refl
place-other name i (m ∷ ms) h all =
    cond-false (same_word name (thing_name m)) _ _ (false_from_ne_true _ (λ e. both_ways (is_numbered_thing name) h (numbered-name name (decimal m) (decimal-digits m all.0) (decimal-some m all.0) e)))
    ∙ place-other name (i + 1) ms h all.1

-- where a number stands among others
pub place-none : (k i : ℕ) (ks : List ℕ) → list_any (λ m. k == m) ks ≡ false → position_from (λ m. k == m) i ks ≡ None
place-none k i [] h = refl
place-none k i (m ∷ ms) h =
    let both = or_parts (k == m) (list_any (λ n. k == n) ms) h in
    cond-false (k == m) _ _ both.0 ∙ place-none k (i + 1) ms both.1

pub place-len : (k i : ℕ) (ks : List ℕ) → list_any (λ m. k == m) ks ≡ true → position_from (λ m. k == m) i ks ≡ Some (i + index_of ks k)
place-len k i [] h = cc
place-len k i (m ∷ ms) h =
    ⊎_elim (λ e. let z : index_of (m ∷ ms) k ≡ 0 = cond-true (k == m) 0 (index_of ms k + 1) e in
    let y : i ≡ i + index_of (m ∷ ms) k = omega arith in
    cond-true (k == m) _ _ e ∙ ap Some y)
    (λ e. let z : index_of (m ∷ ms) k ≡ index_of ms k + 1 = cond-false (k == m) 0 (index_of ms k + 1) e in
    let y : i + 1 + index_of ms k ≡ i + index_of (m ∷ ms) k = omega arith in
    cond-false (k == m) _ _ e ∙ place-len k (i + 1) ms (sym (ap (λ b. b || list_any (λ n. k == n) ms) e) ∙ h) ∙ ap Some y)
    (cases_Bool (k == m))

-- numbers put after change no place
pub index-front : (ks more : List ℕ) (v : ℕ) → list_any (λ m. v == m) ks ≡ true → index_of (ks ++ more) v ≡ index_of ks v
index-front [] more v h = cc
index-front (k ∷ ks) more v h =
    ⊎_elim (λ e. cond-true (v == k) 0 (index_of (ks ++ more) v + 1) e ∙ sym (cond-true (v == k) 0 (index_of ks v + 1) e))
    (λ e. cond-false (v == k) 0 (index_of (ks ++ more) v + 1) e
    ∙ ap (λ n. n + 1) (index-front ks more v (sym (ap (λ b. b || list_any (λ m. v == m) ks) e) ∙ h))
    ∙ sym (cond-false (v == k) 0 (index_of ks v + 1) e))
    (cases_Bool (v == k))

pub index-last : (ks : List ℕ) (v : ℕ) → list_any (λ m. v == m) ks ≡ false → index_of (ks ++ v ∷ []) v ≡ length ks
index-last [] v h = cond-true (v == v) 0 _ (eq-eqb v v refl)
index-last (k ∷ ks) v h =
    let both = or_parts (v == k) (list_any (λ m. v == m) ks) h in
    cond-false (v == k) 0 _ both.0 ∙ omega (arith, index-last ks v both.1)
