-- One word that is a number or a date is a phrase of that form.
use Rattle.std.proofs.Common.{◌≡◌, ℕ, ◌==◌, ◌+◌, ◌<◌, ◌≤◌, nat_lt, nat_le, Bool, true, false, cond, not, ◌&&◌, ◌||◌, Option, Some, None, List, [], ◌∷◌, ℤ, codes, length, map, take, slice_range, slice_index, sym, refl, ap, ◌∙◌, arith}
use Rattle.std.specs.Char.{is_ascii_digit, to_ascii_lowercase}
use Rattle.std.specs.List.{list_all, list_any}
use Rattle.std.specs.Option.{option_or}
use Rattle.std.specs.Str.{bytes_eq}
use Rattle.std.proofs.lemmas.Bool.{and_parts, leb-true, ltb-true, eqb-true, ne_eqb, lt-ltb}
use Rattle.le_layout.specs.declared.token.Kind.{Kind}
use Rattle.le_layout.specs.declared.token.Kind.TheVariants as kinds
use Rattle.le_layout.specs.declared.token.Token.{Token}
use Rattle.le_layout.specs.declared.layout.Layout.{Layout}
use Rattle.le_layout.specs.Words.{text_of, same_word, is_word, is_quote, is_this_word}
use Rattle.le_values.specs.Numbers.{number_of, is_number_word, is_number, word_value}
use Rattle.le_values.specs.Days.{day_of, is_date_word, day_of_date, word_year, word_month, word_day}
use Rattle.le_scope.specs.declared.phrase.PhraseForm.{PhraseForm}
use Rattle.le_scope.specs.declared.phrase.PhraseForm.TheVariants.{Number, Day, Quote}
use Rattle.le_scope.specs.Phrases.{connectives, particles, determiners, is_plain_word, is_plain, is_name, is_determiner, begins_otherwise, value_form, word_form, constant_form, article_form, simple_form, list_form, phrase_form}

-- a word that begins with a digit, or with a minus sign that isn't all of it
pub record IsValueWord (w : List ℕ) : Type 0 where
  pub first : ℕ
  pub rest : List ℕ
  pub whole : w ≡ first ∷ rest
  pub low : first < 58
  pub no_plus : first ≡ 43 → ⊥
  pub no_slash : first ≡ 47 → ⊥
  pub no_minus : bytes_eq (first ∷ rest) (codes "-") ≡ false

neither : (b : Bool) → (b && false) ≡ false
neither true = refl
neither false = refl

is_true : {X : Type 0} (b : Bool) (x y : X) → cond b (Some x) None ≡ Some y → b ≡ true
is_true true x y e = refl
is_true false x y e = absurd (cc)

digit_word : (c : ℕ) (cs : List ℕ) → is_ascii_digit c ≡ true → IsValueWord (c ∷ cs)
digit_word c cs h =
    let low : 48 ≤ c = leb-true 48 c ((and_parts (nat_le 48 c) (nat_le c 57) h).0) in
    let high : c ≤ 57 = leb-true c 57 ((and_parts (nat_le 48 c) (nat_le c 57) h).1) in
    record {
      first = c;
      rest = cs;
      whole = refl;
      low = omega (arith, high);
      no_plus = λ (e : c ≡ 43). omega (arith, low, e);
      no_slash = λ (e : c ≡ 47). omega (arith, low, e);
      no_minus = ap (λ b. b && bytes_eq cs []) (ne_eqb c 45 (λ (e : c ≡ 45). omega (arith, low, e)));
    }

minus_word : (c : ℕ) (cs : List ℕ) → c ≡ 45 → nat_lt 0 (length cs) ≡ true → IsValueWord (c ∷ cs)
minus_word c [] e h = absurd (let g = ltb-true 0 0 h in omega (arith, g))
minus_word c (d ∷ ds) e h =
    record {
      first = c;
      rest = d ∷ ds;
      whole = refl;
      low = omega (arith, e);
      no_plus = λ (f : c ≡ 43). omega (arith, e, f);
      no_slash = λ (f : c ≡ 47). omega (arith, e, f);
      no_minus = neither (c == 45);
    }

number_word : (w : List ℕ) → is_number_word w ≡ true → IsValueWord w
number_word [] h = absurd (cc)
number_word (c ∷ cs) h = cases (c == 45) refl
  where
    cases : (b : Bool) → (c == 45) ≡ b → IsValueWord (c ∷ cs)
    cases true e =
        let F : Bool → Bool = λ b. nat_lt 0 (length (cond b cs (c ∷ cs))) && list_all is_ascii_digit (cond b cs (c ∷ cs)) in
        minus_word c cs (eqb-true c 45 e) ((and_parts (nat_lt 0 (length cs)) (list_all is_ascii_digit cs) (sym (ap F e) ∙ h)).0)
    cases false e =
        let F : Bool → Bool = λ b. nat_lt 0 (length (cond b cs (c ∷ cs))) && list_all is_ascii_digit (cond b cs (c ∷ cs)) in
        let all = (and_parts (nat_lt 0 (length (c ∷ cs))) (list_all is_ascii_digit (c ∷ cs)) (sym (ap F e) ∙ h)).1 in
        digit_word c cs ((and_parts (is_ascii_digit c) (list_all is_ascii_digit cs) all).0)

date_word : (w : List ℕ) → is_date_word w ≡ true → IsValueWord w
date_word [] h = absurd (cc)
date_word (c ∷ cs) h = digit_word c cs ((and_parts (is_ascii_digit c) (list_all is_ascii_digit (take 3 cs)) (second (length (c ∷ cs) == 10) (list_all is_ascii_digit (take 4 (c ∷ cs))) (slice_index (c ∷ cs) 4 == 45) (list_all is_ascii_digit (slice_range (c ∷ cs) 5 7)) (slice_index (c ∷ cs) 7 == 45) (list_all is_ascii_digit (slice_range (c ∷ cs) 8 10)) h)).0)
  where
    second : (a b d e f g : Bool) → (a && b && d && e && f && g) ≡ true → b ≡ true
    second true true d e f g h = refl
    second true false d e f g h = absurd (cc)
    second false b d e f g h = absurd (cc)

-- ---- such a word is none of the words of letters

other_first : (c : ℕ) (cs : List ℕ) (u : ℕ) (us : List ℕ) → c < 58 → 97 ≤ u → bytes_eq (map to_ascii_lowercase (c ∷ cs)) (u ∷ us) ≡ false
other_first c cs u us low high =
    let kept : to_ascii_lowercase c ≡ c = ap (λ b. cond b c (cond (nat_lt c 91) (c + 32) c)) (lt-ltb c 65 (omega (arith, low))) in
    ap (λ b. b && bytes_eq (map to_ascii_lowercase cs) us) (ap (λ x. x == u) kept ∙ ne_eqb c u (λ (e : c ≡ u). omega (arith, low, high, e)))

none_or : (a b : Bool) → a ≡ false → b ≡ false → (a || b) ≡ false
none_or a b e f = ap (λ x. x || b) e ∙ f

none_and : (a b : Bool) → a ≡ false → (a && b) ≡ false
none_and a b e = ap (λ x. x && b) e

no_connective : (c : ℕ) (cs : List ℕ) → c < 58 → list_any (same_word (c ∷ cs)) connectives ≡ false
no_connective c cs low =
    none_or _ _ (other_first c cs 105 (102 ∷ []) low (omega arith))
    (none_or _ _ (other_first c cs 97 (110 ∷ 100 ∷ []) low (omega arith))
    (none_or _ _ (other_first c cs 111 (114 ∷ []) low (omega arith))
    (none_or _ _ (other_first c cs 119 (104 ∷ 105 ∷ 99 ∷ 104 ∷ []) low (omega arith))
    (none_or _ _ (other_first c cs 101 (97 ∷ 99 ∷ 104 ∷ []) low (omega arith)) refl))))

no_determiner : (c : ℕ) (cs : List ℕ) → c < 58 → list_any (same_word (c ∷ cs)) determiners ≡ false
no_determiner c cs low =
    none_or _ _ (other_first c cs 116 (104 ∷ 101 ∷ []) low (omega arith))
    (none_or _ _ (other_first c cs 97 [] low (omega arith))
    (none_or _ _ (other_first c cs 97 (110 ∷ []) low (omega arith))
    (none_or _ _ (other_first c cs 97 (110 ∷ 111 ∷ 116 ∷ 104 ∷ 101 ∷ 114 ∷ []) low (omega arith))
    (none_or _ _ (other_first c cs 115 (111 ∷ 109 ∷ 101 ∷ []) low (omega arith))
    (none_or _ _ (other_first c cs 97 (110 ∷ 121 ∷ []) low (omega arith))
    (none_or _ _ (other_first c cs 101 (118 ∷ 101 ∷ 114 ∷ 121 ∷ []) low (omega arith)) refl))))))

no_particle : (w : List ℕ) (v : IsValueWord w) → list_any (bytes_eq (v.first ∷ v.rest)) particles ≡ false
no_particle w v =
    let c = v.first in
    let cs = v.rest in
    let low = v.low in
    none_or _ _ (none_and (c == 43) (bytes_eq cs []) (ne_eqb c 43 v.no_plus))
    (none_or _ _ v.no_minus
    (none_or _ _ (none_and (c == 47) (bytes_eq cs []) (ne_eqb c 47 v.no_slash))
    (none_or _ _ (none_and (c == 97) (bytes_eq cs []) (ne_eqb c 97 (λ (e : c ≡ 97). omega (arith, low, e))))
    (none_or _ _ (none_and (c == 97) (bytes_eq cs (110 ∷ [])) (ne_eqb c 97 (λ (e : c ≡ 97). omega (arith, low, e)))) refl))))

plain_value : (w : List ℕ) → IsValueWord w → is_plain_word w ≡ true
unfolding is_plain_word
plain_value w v =
    ap (λ x. not (list_any (same_word x) connectives) && not (list_any (bytes_eq x) particles)) v.whole
    ∙ ap (λ b. not b && not (list_any (bytes_eq (v.first ∷ v.rest)) particles)) (no_connective v.first v.rest v.low)
    ∙ ap (λ b. not b) (no_particle w v)

-- ---- one such word as a phrase

word_quote : (k : Kind) → is_word k ≡ true → is_quote k ≡ false
word_quote kinds.Word h = refl
word_quote kinds.Quote h = absurd (cc)
word_quote kinds.Open h = refl
word_quote kinds.Close h = refl
word_quote kinds.Bar h = refl
word_quote kinds.Comma h = refl
word_quote kinds.Colon h = refl
word_quote kinds.Star h = refl
word_quote kinds.Stop h = refl

one_name : (l : Layout) (t : Token) → is_word t.kind ≡ true → IsValueWord (text_of l t) → is_name l (t ∷ []) ≡ true
unfolding is_name is_plain
one_name l t k v = ap (λ b. (b && is_plain_word (text_of l t)) && true) k ∙ ap (λ b. b && true) (plain_value (text_of l t) v)

one_begins : (l : Layout) (t : Token) → IsValueWord (text_of l t) → begins_otherwise l (t ∷ []) ≡ false
unfolding begins_otherwise is_determiner
one_begins l t v =
    none_or _ _ (ap (λ b. is_word t.kind && b) (ap (λ x. list_any (same_word x) determiners) v.whole ∙ no_determiner v.first v.rest v.low) ∙ neither (is_word t.kind))
    (none_or _ _ (neither (is_this_word l (codes "it") t)) (neither (is_this_word l (codes "it") t)))

one_word : (l : Layout) (t : Token) → is_word t.kind ≡ true → IsValueWord (text_of l t) → simple_form l (t ∷ []) ≡ Some (word_form (text_of l t))
unfolding simple_form is_name
one_word l t k v =
    ap (λ b. option_or (cond b (Some Quote) None) (option_or (article_form l (t ∷ [])) (constant_form l (t ∷ [])))) (word_quote t.kind k)
    ∙ ap (λ b. cond (b && not (begins_otherwise l (t ∷ []))) (Some (word_form (text_of l t))) None) (one_name l t k v)
    ∙ ap (λ b. cond (not b) (Some (word_form (text_of l t))) None) (one_begins l t v)

-- a phrase without brackets is a phrase of the same form
pub form_kept : (l : Layout) (ts : List Token) (f : PhraseForm) → simple_form l ts ≡ Some f → phrase_form l ts ≡ Some f
unfolding phrase_form
form_kept l ts f e = ap (λ o. option_or o (list_form l ts)) e

pub number_is : (l : Layout) (t : Token) (n : ℤ) → is_word t.kind ≡ true → number_of (text_of l t) ≡ Some n → phrase_form l (t ∷ []) ≡ Some (Number n)
unfolding number_of word_form
number_is l t n k e =
    let w = text_of l t in
    let v = number_word w ((and_parts (is_number_word w) (is_number (word_value w)) (is_true (is_number_word w && is_number (word_value w)) (word_value w) n e)).0) in
    form_kept l (t ∷ []) (word_form w) (one_word l t k v) ∙ ap (λ o. Some (value_form o (day_of w))) e

pub day_is : (l : Layout) (t : Token) (day : ℤ) → is_word t.kind ≡ true → number_of (text_of l t) ≡ None → day_of (text_of l t) ≡ Some day → phrase_form l (t ∷ []) ≡ Some (Day day)
unfolding day_of word_form
day_is l t day k none e =
    let w = text_of l t in
    let v = date_word w (some_if (is_date_word w) (day_of_date (word_year w) (word_month w) (word_day w)) day e) in
    form_kept l (t ∷ []) (word_form w) (one_word l t k v) ∙ ap (λ o. Some (value_form o (day_of w))) none ∙ ap (λ o. Some (value_form None o)) e
  where
    some_if : (b : Bool) (o : Option ℤ) (d : ℤ) → cond b o None ≡ Some d → b ≡ true
    some_if true o d h = refl
    some_if false o d h = absurd (cc)
