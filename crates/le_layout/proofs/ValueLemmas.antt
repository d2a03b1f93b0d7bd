-- Numbers and dates are words that a document can have.
use Rattle.std.proofs.Common.{◌≡◌, ◌==◌, ℕ, ◌<◌, true, false, not, Bool, ◌&&◌, ◌||◌, List, [], ◌∷◌, ◌++◌, length, take, drop, slice_index, is_some, Some, None, ℤ, IsUtf8, chars, sym, refl, ap, ◌∙◌, subst, ⊎_elim, arith, take-append-drop, drop-drop, take_all, length-drop}
use Rattle.std.specs.Char.{is_ascii_digit}
use Rattle.std.specs.List.{list_all}
use Rattle.std.proofs.lemmas.Bool.{cases_Bool, cond-true, cond-false, and_parts, and_from, and_left, and_right, or_cases, both_ways, eqb-true}
use Rattle.std.proofs.lemmas.List.{drop_more}
use Rattle.std.proofs.lemmas.List.Folds.{list_all_at, list_all-append}
use Rattle.std.proofs.lemmas.Str.{IsUtf8-nil, chars-nil}
use Rattle.unicode_ident.proofs.IdentLemmas.{is_xid_continue-ascii}
use Rattle.le_values.specs.Numbers.{after_minus, is_number_word, is_number, word_value, number_of}
use Rattle.le_values.specs.Days.{is_date_word, word_year, word_month, word_day, day_of_date, day_of}
use Rattle.le_values.proofs.NumberLemmas.{digits_have_no_minus}
use Rattle.le_layout.specs.Characters.{is_ascii_sign, is_further_sign, is_word_character}
use Rattle.le_layout.specs.Pieces.{all_go_on, is_word}
use Rattle.le_layout.specs.Faults.{is_numeral, is_numerals, is_number_like, is_bad_number, is_bad_date}
use Rattle.le_layout.specs.Written.{IsWordText}
use Rattle.le_layout.proofs.WordLemmas.{digit_small, digit_word, goes_on-word}
use Rattle.le_layout.proofs.JoinLemmas.{cons_utf8, cons_chars}

-- a digit or a minus sign
abbrev is_plain : ℕ → Bool
is_plain c = is_ascii_digit c || (c == 45)

plain_small : (c : ℕ) → is_plain c ≡ true → c < 128
plain_small c h = ⊎_elim (λ k. digit_small c k) (λ k. omega (arith, eqb-true c 45 k)) (or_cases (is_ascii_digit c) (c == 45) h)

minus_word : is_word_character 45 ≡ true
unfolding is_word_character is_ascii_sign is_further_sign
minus_word = ap (λ b. b || (is_ascii_sign 45 || is_further_sign 45)) (is_xid_continue-ascii 45 (omega arith))

plain_word : (c : ℕ) → is_plain c ≡ true → is_word_character c ≡ true
plain_word c h = ⊎_elim (λ k. digit_word c k) (λ k. ap is_word_character (eqb-true c 45 k) ∙ minus_word) (or_cases (is_ascii_digit c) (c == 45) h)

plain_go_on : (a : ℕ) (bs : List ℕ) → list_all is_plain bs ≡ true → all_go_on a bs ≡ true
plain_go_on a [] h = refl
plain_go_on a (b ∷ bs) h =
    let both = and_parts (is_plain b) (list_all is_plain bs) h in
    and_from _ _ (goes_on-word a b bs (plain_word b both.0)) (plain_go_on b bs both.1)

plain_is_word : (cs : List ℕ) → 0 < length cs → list_all is_plain cs ≡ true → is_word cs ≡ true
plain_is_word [] n h = absurd (omega arith)
plain_is_word (c ∷ cs) n h =
    let both = and_parts (is_plain c) (list_all is_plain cs) h in
    and_from _ _ (plain_word c both.0) (plain_go_on c cs both.1)

plain_utf8 : (cs : List ℕ) → list_all is_plain cs ≡ true → IsUtf8 cs
plain_utf8 [] h = IsUtf8-nil
plain_utf8 (c ∷ cs) h =
    let both = and_parts (is_plain c) (list_all is_plain cs) h in
    cons_utf8 c cs (plain_small c both.0) (plain_utf8 cs both.1)

plain_chars : (cs : List ℕ) → list_all is_plain cs ≡ true → chars cs ≡ cs
plain_chars [] h = chars-nil
plain_chars (c ∷ cs) h =
    let both = and_parts (is_plain c) (list_all is_plain cs) h in
    cons_chars c cs (plain_small c both.0) ∙ ap (λ xs. c ∷ xs) (plain_chars cs both.1)

plain_text : (text : List ℕ) → 0 < length text → list_all is_plain text ≡ true → is_bad_number text ≡ false → is_bad_date text ≡ false → IsWordText text
plain_text text n h number date =
    record { utf8 = plain_utf8 text h; word = ap is_word (plain_chars text h) ∙ plain_is_word text n h; number = number; date = date }

digits_plain : (cs : List ℕ) → list_all is_ascii_digit cs ≡ true → list_all is_plain cs ≡ true
digits_plain [] h = refl
digits_plain (c ∷ cs) h =
    let both = and_parts (is_ascii_digit c) (list_all is_ascii_digit cs) h in
    and_from _ _ (ap (λ b. b || (c == 45)) both.0) (digits_plain cs both.1)

minus_plain : (c : ℕ) → (c == 45) ≡ true → is_plain c ≡ true
minus_plain c h = ap is_plain (eqb-true c 45 h)

no_value : {z : ℤ} → None ≡ Some z → ⊥
no_value e = cc

-- a number
number_form : (text : List ℕ) (n : ℤ) → number_of text ≡ Some n → is_number_word text ≡ true
unfolding number_of
number_form text n e =
    ⊎_elim (λ h. (and_parts (is_number_word text) (is_number (word_value text)) h).0)
    (λ h. absurd (no_value (sym (cond-false (is_number_word text && is_number (word_value text)) _ _ h) ∙ e)))
    (cases_Bool (is_number_word text && is_number (word_value text)))

number_digits : (c : ℕ) (cs : List ℕ) → is_number_word (c ∷ cs) ≡ true → (c == 45) ≡ false → list_all is_ascii_digit (c ∷ cs) ≡ true
number_digits c cs h k = ap (list_all is_ascii_digit) (sym (cond-false (c == 45) cs (c ∷ cs) k)) ∙ (and_parts _ (list_all is_ascii_digit (after_minus (c ∷ cs))) h).1

number_plain : (c : ℕ) (cs : List ℕ) → is_number_word (c ∷ cs) ≡ true → list_all is_plain (c ∷ cs) ≡ true
number_plain c cs h =
    ⊎_elim (λ k. and_from _ _ (minus_plain c k) (digits_plain cs (ap (list_all is_ascii_digit) (sym (cond-true (c == 45) cs (c ∷ cs) k)) ∙ (and_parts _ (list_all is_ascii_digit (after_minus (c ∷ cs))) h).1)))
    (λ k. digits_plain (c ∷ cs) (number_digits c cs h k))
    (cases_Bool (c == 45))

-- a date
record DateForm (text : List ℕ) : Type 0 where
  long : length text ≡ 10
  year : list_all is_ascii_digit (take 4 text) ≡ true
  first : slice_index text 4 ≡ 45
  month : list_all is_ascii_digit (take 2 (drop 5 text)) ≡ true
  second : slice_index text 7 ≡ 45
  day : list_all is_ascii_digit (take 2 (drop 8 text)) ≡ true

date_parts : (text : List ℕ) → is_date_word text ≡ true → DateForm text
date_parts text h =
    let five = and_parts _ _ h in
    let four = and_parts _ _ five.0 in
    let three = and_parts _ _ four.0 in
    let two = and_parts _ _ three.0 in
    let one = and_parts _ _ two.0 in
    record { long = eqb-true _ _ one.0; year = one.1; first = eqb-true _ _ two.1; month = three.1; second = eqb-true _ _ four.1; day = five.1 }

date_form : (text : List ℕ) (day : ℤ) → day_of text ≡ Some day → is_date_word text ≡ true
unfolding day_of
date_form text day e =
    ⊎_elim (λ h. h)
    (λ h. absurd (no_value (sym (cond-false (is_date_word text) (day_of_date (word_year text) (word_month text) (word_day text)) None h) ∙ e)))
    (cases_Bool (is_date_word text))

plain_both : (xs ys : List ℕ) → list_all is_plain xs ≡ true → list_all is_plain ys ≡ true → list_all is_plain (xs ++ ys) ≡ true
plain_both xs ys h k = list_all-append is_plain xs ys ∙ and_from _ _ h k

plain_minus : (xs : List ℕ) → list_all is_plain xs ≡ true → list_all is_plain (45 ∷ xs) ≡ true
plain_minus xs h = h

date_plain : (text : List ℕ) → DateForm text → list_all is_plain text ≡ true
date_plain text d =
    let Plain : List ℕ → Type 0 = λ xs. list_all is_plain xs ≡ true in
    let at4 : drop 4 text ≡ 45 ∷ drop 5 text = drop_more text 4 0 (omega (arith, d.long)) ∙ ap (λ c. c ∷ drop 5 text) d.first in
    let at7 : drop 7 text ≡ 45 ∷ drop 8 text = drop_more text 7 0 (omega (arith, d.long)) ∙ ap (λ c. c ∷ drop 8 text) d.second in
    let last : take 2 (drop 8 text) ≡ drop 8 text = take_all 2 (drop 8 text) (omega (arith, length-drop 8 text, d.long)) in
    let from8 : Plain (drop 8 text) = subst Plain last (digits_plain (take 2 (drop 8 text)) d.day) in
    let from7 : Plain (drop 7 text) = subst Plain (sym at7) (plain_minus (drop 8 text) from8) in
    let from5 : Plain (drop 5 text) = subst Plain (take-append-drop 2 (drop 5 text)) (plain_both (take 2 (drop 5 text)) (drop 2 (drop 5 text)) (digits_plain (take 2 (drop 5 text)) d.month) (subst Plain (sym (drop-drop 2 5 text)) from7)) in
    let from4 : Plain (drop 4 text) = subst Plain (sym at4) (plain_minus (drop 5 text) from5) in
    subst Plain (take-append-drop 4 text) (plain_both (take 4 text) (drop 4 text) (digits_plain (take 4 text) d.year) from4)

-- no word is both
number_no_date : (c : ℕ) (cs : List ℕ) → is_number_word (c ∷ cs) ≡ true → is_date_word (c ∷ cs) ≡ false
number_no_date c cs h =
    ⊎_elim (λ k. let d = date_parts (c ∷ cs) k in
    let digits = number_digits c cs h (digits_have_no_minus (take 4 (c ∷ cs)) d.year) in
    absurd (both_ways (list_all is_ascii_digit (c ∷ cs)) (list_all_at is_ascii_digit (c ∷ cs) 4 0 (omega (arith, d.long)) (ap is_ascii_digit d.first)) digits))
    (λ k. k)
    (cases_Bool (is_date_word (c ∷ cs)))

minus_no_numeral : is_numeral 45 ≡ false
unfolding is_numeral
minus_no_numeral = refl

date_no_number : (c : ℕ) (cs : List ℕ) → DateForm (c ∷ cs) → is_number_like (c ∷ cs) ≡ false
unfolding is_number_like is_numerals
date_no_number c cs d =
    let plain : (c == 45) ≡ false = digits_have_no_minus (take 4 (c ∷ cs)) d.year in
    ap is_numerals (cond-false (c == 45) cs (c ∷ cs) plain)
    ∙ and_right (is_ascii_digit c) (list_all is_numeral cs) (list_all_at is_numeral cs 3 0 (omega (arith, d.long)) (ap is_numeral d.first ∙ minus_no_numeral))

-- so they are words that a document can have
number_sound : (text : List ℕ) (n : ℤ) → number_of text ≡ Some n → is_bad_number text ≡ false
unfolding is_bad_number
number_sound text n e = and_right (is_number_like text) _ (ap (λ found. not (is_some found)) e)

date_sound : (text : List ℕ) (day : ℤ) → day_of text ≡ Some day → is_bad_date text ≡ false
unfolding is_bad_date
date_sound text day e = and_right (is_date_word text) _ (ap (λ found. not (is_some found)) e)

no_date_sound : (text : List ℕ) → is_date_word text ≡ false → is_bad_date text ≡ false
unfolding is_bad_date
no_date_sound text h = and_left (is_date_word text) _ h

no_number_sound : (text : List ℕ) → is_number_like text ≡ false → is_bad_number text ≡ false
unfolding is_bad_number
no_number_sound text h = and_left (is_number_like text) _ h

pub number_word_text : (text : List ℕ) (n : ℤ) → number_of text ≡ Some n → IsWordText text
number_word_text [] n e = let f : false ≡ true = number_form [] n e in cc
number_word_text (c ∷ cs) n e =
    let form = number_form (c ∷ cs) n e in
    plain_text (c ∷ cs) (omega arith) (number_plain c cs form) (number_sound (c ∷ cs) n e) (no_date_sound (c ∷ cs) (number_no_date c cs form))

pub date_word_text : (text : List ℕ) (day : ℤ) → day_of text ≡ Some day → IsWordText text
date_word_text [] day e = let f : false ≡ true = date_form [] day e in cc
date_word_text (c ∷ cs) day e =
    let form = date_parts (c ∷ cs) (date_form (c ∷ cs) day e) in
    plain_text (c ∷ cs) (omega arith) (date_plain (c ∷ cs) form) (no_number_sound (c ∷ cs) (date_no_number c cs form)) (date_sound (c ∷ cs) day e)
