-- Names from words and quoted texts hold only what a quoted text may hold, and numbers and days from words are those that a term may have.
use Rattle.std.proofs.Common.{◌≡◌, ℕ, ◌^◌, ◌<◌, ◌≤◌, ◌==◌, nat_le, Bool, true, false, cond, not, ◌&&◌, ◌||◌, Option, Some, None, IfSome, List, [], ◌∷◌, ◌++◌, map, flat_map, drop, chars, codes, ℤ, pos, negsuc, unsigned_abs, ◌≤ℤ◌, length, refl, sym, ap, ◌∙◌, ⊎_elim, arith}
use Rattle.std.specs.Char.{is_ascii_digit}
use Rattle.std.specs.List.{list_all, All}
use Rattle.std.specs.Option.{option_or}
use Rattle.std.proofs.lemmas.Bool.{cases_lt, both_ways, and_parts, and_from, or_cases, le-ltb, ne_eqb, eqb-true, leb-true}
use Rattle.std.proofs.lemmas.Bool.Decides.{nat_tests}
use Rattle.std.proofs.lemmas.Int.{ints}
use Rattle.std.proofs.lemmas.List.Elements.{All-nil, All-cons, All-head, All-tail}
use Rattle.std.proofs.lemmas.Str.{IsUtf8-append, IsUtf8-nil, chars-append, chars-nil}
use Rattle.unicode_ident.specs.Ident.{is_xid_continue}
use Rattle.unicode_ident.proofs.IdentLemmas.{is_xid_continue-ascii}
use Rattle.le_layout.specs.declared.token.Kind.{Kind}
use Rattle.le_layout.specs.declared.token.Kind.TheVariants as kinds
use Rattle.le_layout.specs.declared.token.Token.{Token}
use Rattle.le_layout.specs.declared.layout.Layout.{Layout}
use Rattle.le_layout.specs.Characters.{is_ascii_sign, is_further_sign, is_word_character, may_be_quoted}
use Rattle.le_layout.specs.Layout.{IsTokenIn}
use Rattle.le_layout.specs.Pieces.{joins, goes_on, all_go_on, is_word as is_word_text}
use Rattle.le_layout.specs.Words.{text_of, spaced, is_word, is_quote, is_this_word}
use Rattle.le_layout.specs.Written.{is_quotable, IsQuotable, IsWrittenAs}
use Rattle.le_layout.proofs.PieceLemmas.{mark_no_word, quote_no_word}
use Rattle.le_layout.proofs.WordLemmas.{goes_on-cases}
use Rattle.le_layout.proofs.JoinLemmas.{cons_utf8, cons_chars}
use Rattle.le_base.specs.Ranges.{IsNumber, IsDay}
use Rattle.std.specs.Int.{IsInRange, is_in_range}
use Rattle.jiff_core.specs.Calendar.{days_from_civil, days_in_month, IsCivilDate}
use Rattle.jiff_core.proofs.SignedLemmas.{signed_arith}
use Rattle.jiff_core.proofs.CalendarLemmas.{days_from_civil-day_count, day_count_bounds, day_count-lt_year, day_count-day_of_year}
use Rattle.le_values.specs.Numbers.{greatest_number, is_number, is_number_word, word_value, number_of}
use Rattle.le_values.specs.Days.{first_day, is_date, is_date_word, word_year, word_month, word_day, day_of_date, day_of}
use Rattle.le_values.proofs.DayLemmas.{days_from_civil-first}
use Rattle.le_scope.specs.declared.phrase.PhraseForm.{PhraseForm}
use Rattle.le_scope.specs.declared.phrase.PhraseForm.TheVariants as forms
use Rattle.le_scope.specs.Phrases.{phrase_name}
use Rattle.le_scope.specs.Simple.{is_plain_word, is_plain, is_name, begins_otherwise, is_indefinite, article, quote_form, article_form, value_form, word_form, name_form, constant_form, simple_form}
use Rattle.le_match.specs.Terms.{first_of}

-- ---- characters

low_xid : (c : ℕ) → c < 32 → is_xid_continue c ≡ false
low_xid c h = is_xid_continue-ascii c (omega arith) ∙ grind (arith, nat_tests)

low_no_sign : (c : ℕ) → c < 32 → (is_ascii_sign c || is_further_sign c) ≡ false
unfolding is_ascii_sign is_further_sign
low_no_sign c h = grind (arith, nat_tests)

low_no_word : (c : ℕ) → c < 32 → is_word_character c ≡ false
low_no_word c h = mark_no_word c (low_xid c h) (low_no_sign c h)

delete_no_word : is_word_character 127 ≡ false
unfolding is_ascii_sign is_further_sign
delete_no_word = mark_no_word 127 (is_xid_continue-ascii 127 (omega arith)) refl

quotable_is : (c : ℕ) → 32 ≤ c → (c == 127) ≡ false → (c == 34) ≡ false → is_quotable c ≡ true
unfolding is_quotable may_be_quoted
quotable_is c h e f = and_from _ _ (and_from _ _ (ap not (le-ltb c 32 h)) (ap not e)) (ap not f)

word_quotable : (c : ℕ) → is_word_character c ≡ true → is_quotable c ≡ true
word_quotable c h =
    quotable_is c
    (⊎_elim (λ (k : c < 32). absurd (both_ways (is_word_character c) (low_no_word c k) h)) (λ (k : 32 ≤ c). k) (cases_lt c 32))
    (ne_eqb c 127 (λ e. both_ways (is_word_character c) (ap is_word_character e ∙ delete_no_word) h))
    (ne_eqb c 34 (λ e. both_ways (is_word_character c) (ap is_word_character e ∙ quote_no_word) h))

stop_quotable : (c : ℕ) → (c == 46) ≡ true → is_quotable c ≡ true
unfolding is_quotable may_be_quoted
stop_quotable c h = ap is_quotable (eqb-true c 46 h)

comma_quotable : (c : ℕ) → (c == 44) ≡ true → is_quotable c ≡ true
unfolding is_quotable may_be_quoted
comma_quotable c h = ap is_quotable (eqb-true c 44 h)

joining_quotable : (a b : ℕ) (bs : List ℕ) → joins a b bs ≡ true → is_quotable b ≡ true
unfolding joins
joining_quotable a b [] h = absurd (cc)
joining_quotable a b (c ∷ cs) h =
    ⊎_elim (λ k. stop_quotable b (and_parts (b == 46) (is_word_character c) k).0)
    (λ k. comma_quotable b (and_parts (b == 44) (is_ascii_digit a && is_ascii_digit c) k).0)
    (or_cases _ _ h)

going_on_quotable : (a b : ℕ) (bs : List ℕ) → goes_on a (b ∷ bs) ≡ true → is_quotable b ≡ true
going_on_quotable a b bs h =
    ⊎_elim (word_quotable b) (joining_quotable a b bs) (or_cases (is_word_character b) (joins a b bs) (sym (goes_on-cases a b bs) ∙ h))

more_quotable : (a : ℕ) (bs : List ℕ) → all_go_on a bs ≡ true → list_all is_quotable bs ≡ true
more_quotable a [] h = refl
more_quotable a (b ∷ bs) h = let both = and_parts (goes_on a (b ∷ bs)) (all_go_on b bs) h in and_from _ _ (going_on_quotable a b bs both.0) (more_quotable b bs both.1)

word_text_quotable : (cs : List ℕ) → is_word_text cs ≡ true → list_all is_quotable cs ≡ true
word_text_quotable [] h = refl
word_text_quotable (c ∷ cs) h = let both = and_parts (is_word_character c) (all_go_on c cs) h in and_from _ _ (word_quotable c both.0) (more_quotable c cs both.1)

-- ---- texts

all_append : (p : ℕ → Bool) (xs ys : List ℕ) → list_all p xs ≡ true → list_all p ys ≡ true → list_all p (xs ++ ys) ≡ true
all_append p [] ys h k = k
all_append p (x ∷ xs) ys h k = let both = and_parts (p x) (list_all p xs) h in and_from _ _ both.0 (all_append p xs ys both.1 k)

none_quotable : IsQuotable []
none_quotable = record { utf8 = IsUtf8-nil; inner = ap (list_all is_quotable) chars-nil }

append_quotable : (a b : List ℕ) → IsQuotable a → IsQuotable b → IsQuotable (a ++ b)
append_quotable a b h k = record {
  utf8 = IsUtf8-append a b h.utf8 k.utf8;
  inner = ap (list_all is_quotable) (chars-append a b h.utf8) ∙ all_append is_quotable (chars a) (chars b) h.inner k.inner;
}

cons_quotable : (c : ℕ) (b : List ℕ) → c < 127 → is_quotable c ≡ true → IsQuotable b → IsQuotable (c ∷ b)
cons_quotable c b low h k = record {
  utf8 = cons_utf8 c b (omega (arith, low)) k.utf8;
  inner = ap (list_all is_quotable) (cons_chars c b (omega (arith, low))) ∙ and_from (is_quotable c) _ h k.inner;
}

-- the text of `the` and a name
pub the_quotable : (name : List ℕ) → IsQuotable name → IsQuotable (codes "the " ++ name)
unfolding is_quotable may_be_quoted
the_quotable name h =
    cons_quotable 116 _ (omega arith) refl (cons_quotable 104 _ (omega arith) refl (cons_quotable 101 _ (omega arith) refl (cons_quotable 32 name (omega arith) refl h)))

-- texts joined by one space
spaced_quotable : (ws : List (List ℕ)) → All IsQuotable ws → IsQuotable (flat_map (λ v. 32 ∷ v) ws)
unfolding is_quotable may_be_quoted
spaced_quotable [] h = none_quotable
spaced_quotable (w ∷ ws) h =
    append_quotable (32 ∷ w) (flat_map (λ v. 32 ∷ v) ws) (cons_quotable 32 w (omega arith) refl (All-head IsQuotable w ws h)) (spaced_quotable ws (All-tail IsQuotable w ws h))

joined_quotable : (ws : List (List ℕ)) → All IsQuotable ws → IsQuotable (spaced ws)
joined_quotable [] h = none_quotable
joined_quotable (w ∷ ws) h = append_quotable w (flat_map (λ v. 32 ∷ v) ws) (All-head IsQuotable w ws h) (spaced_quotable ws (All-tail IsQuotable w ws h))

-- ---- the texts of tokens

word_written : (k : Kind) (text : List ℕ) → is_word k ≡ true → IsWrittenAs k text → IsQuotable text
word_written kinds.Word text h w = record { utf8 = w.utf8; inner = word_text_quotable (chars text) w.word }
word_written kinds.Quote text h w = absurd (cc)
word_written kinds.Open text h w = absurd (cc)
word_written kinds.Close text h w = absurd (cc)
word_written kinds.Bar text h w = absurd (cc)
word_written kinds.Comma text h w = absurd (cc)
word_written kinds.Colon text h w = absurd (cc)
word_written kinds.Star text h w = absurd (cc)
word_written kinds.Stop text h w = absurd (cc)

quote_written : (k : Kind) (text : List ℕ) → is_quote k ≡ true → IsWrittenAs k text → IsQuotable text
quote_written kinds.Word text h w = absurd (cc)
quote_written kinds.Quote text h w = w
quote_written kinds.Open text h w = absurd (cc)
quote_written kinds.Close text h w = absurd (cc)
quote_written kinds.Bar text h w = absurd (cc)
quote_written kinds.Comma text h w = absurd (cc)
quote_written kinds.Colon text h w = absurd (cc)
quote_written kinds.Star text h w = absurd (cc)
quote_written kinds.Stop text h w = absurd (cc)

plain_quotable : (l : Layout) (t : Token) → IsTokenIn l.text t → is_plain l t ≡ true → IsQuotable (text_of l t)
unfolding is_plain
plain_quotable l t h e = word_written t.kind (text_of l t) (and_parts (is_word t.kind) (is_plain_word (text_of l t)) e).0 h.written

texts_quotable : (l : Layout) (ts : List Token) → All (IsTokenIn l.text) ts → list_all (is_plain l) ts ≡ true → All IsQuotable (map (text_of l) ts)
texts_quotable l [] h e = All-nil IsQuotable
texts_quotable l (t ∷ ts) h e =
    let both = and_parts (is_plain l t) (list_all (is_plain l) ts) e in
    All-cons IsQuotable (text_of l t) (map (text_of l) ts)
    (plain_quotable l t (All-head (IsTokenIn l.text) t ts h) both.0)
    (texts_quotable l ts (All-tail (IsTokenIn l.text) t ts h) both.1)

name_quotable : (l : Layout) (ts : List Token) → All (IsTokenIn l.text) ts → is_name l ts ≡ true → IsQuotable (phrase_name l ts)
unfolding is_name phrase_name
name_quotable l ts h e =
    let few = and_parts (nat_le 1 (length ts)) (nat_le (length ts) 12 && list_all (is_plain l) ts) e in
    let plain = and_parts (nat_le (length ts) 12) (list_all (is_plain l) ts) few.1 in
    joined_quotable (map (text_of l) ts) (texts_quotable l ts h plain.1)

-- ---- numbers and days

small_number : (n : ℤ) → unsigned_abs n ≤ 10 ^ 18 → IsNumber n
small_number (pos n) h = (omega (arith, ints, h), omega (arith, ints, h))
small_number (negsuc n) h = (omega (arith, ints, h), omega (arith, ints, h))

number_in_range : (w : List ℕ) → IfSome (number_of w) IsNumber
unfolding number_of
number_in_range w = cases (is_number_word w) (is_number (word_value w)) refl
  where
    cases : (a b : Bool) → is_number (word_value w) ≡ b → IfSome (cond (a && b) (Some (word_value w)) None) IsNumber
    cases true true e = small_number (word_value w) (leb-true (unsigned_abs (word_value w)) greatest_number e)
    cases true false e = tt
    cases false b e = tt

within : (low high n : ℕ) → is_in_range low high n ≡ true → IsInRange low high n
within low high n h = let both = and_parts (nat_le low n) (nat_le n high) h in (leb-true low n both.0, leb-true n high both.1)

first_date : IsCivilDate (pos 1) 1 1
first_date = ((omega (arith, ints), omega (arith, ints)), (omega arith, omega arith), (omega arith, omega arith))

date_in_range : (y m d : ℕ) → is_date y m d ≡ true → IsDay (days_from_civil (pos y) m d)
date_in_range y m d e =
    let parts = and_parts (is_in_range 1 9999 y && is_in_range 1 12 m) (is_in_range 1 (days_in_month (pos y) m) d) e in
    let front = and_parts (is_in_range 1 9999 y) (is_in_range 1 12 m) parts.0 in
    let year = within 1 9999 y front.0 in
    let month = within 1 12 m front.1 in
    let day = within 1 (days_in_month (pos y) m) d parts.1 in
    let least : 1 ≤ y = year.0 in
    let most : y ≤ 9999 = year.1 in
    let first : 1 ≤ d = day.0 in
    let civil : IsCivilDate (pos y) m d = ((omega (arith, ints, least), omega (arith, ints, most)), month, day) in
    let low : first_day ≤ℤ days_from_civil (pos y) m d =
    ⊎_elim
    (λ (k : 1 < y). omega (arith, signed_arith, days_from_civil-day_count, days_from_civil-first, day_count-lt_year (pos 1) 1 1 (pos y) m d first_date first (omega (arith, ints, k))))
    (λ (k : y ≤ 1).
    let one : y ≡ 1 = omega (arith, k, least) in
    rw one (omega (arith, signed_arith, days_from_civil-day_count, days_from_civil-first, day_count-day_of_year (pos 1) m d first)))
    (cases_lt 1 y) in
    (low, omega (arith, signed_arith, days_from_civil-day_count, day_count_bounds (pos y) m d civil))

day_in_range : (w : List ℕ) → IfSome (day_of w) IsDay
unfolding day_of
day_in_range w = outer (is_date_word w)
  where
    inner : (y m d : ℕ) (b : Bool) → is_date y m d ≡ b → IfSome (cond b (Some (days_from_civil (pos y) m d)) None) IsDay
    inner y m d true e = date_in_range y m d e
    inner y m d false e = tt

    outer : (b : Bool) → IfSome (cond b (day_of_date (word_year w) (word_month w) (word_day w)) None) IsDay
    outer true = inner (word_year w) (word_month w) (word_day w) (is_date (word_year w) (word_month w) (word_day w)) refl
    outer false = tt

-- ---- what a form says

-- the number or the day of a form is one that a term may have, and the name of its constant is one that a quoted text can hold
abbrev pub CanBeSaid : Layout → List Token → PhraseForm → Type 0
CanBeSaid l ts (forms.Number n) = IsNumber n
CanBeSaid l ts (forms.Day d) = IsDay d
CanBeSaid l ts forms.Quote = IsQuotable (text_of l (first_of ts))
CanBeSaid l ts forms.List = Unit {0}
CanBeSaid l ts forms.A = Unit {0}
CanBeSaid l ts forms.The = IsQuotable (phrase_name l (drop 1 ts))
CanBeSaid l ts forms.Which = Unit {0}
CanBeSaid l ts forms.Constant = IsQuotable (phrase_name l ts)

either : (P : PhraseForm → Type 0) (a b : Option PhraseForm) → IfSome a P → IfSome b P → IfSome (option_or a b) P
either P (Some f) b h k = h
either P None b h k = k

chosen : (P : PhraseForm → Type 0) (b : Bool) (o p : Option PhraseForm) → (b ≡ true → IfSome o P) → IfSome p P → IfSome (cond b o p) P
chosen P true o p h k = h refl
chosen P false o p h k = k

quote_said : (l : Layout) (ts : List Token) → All (IsTokenIn l.text) ts → IfSome (quote_form ts) (CanBeSaid l ts)
quote_said l [] h = tt
quote_said l (t ∷ []) h =
    chosen (CanBeSaid l (t ∷ [])) (is_quote t.kind) (Some forms.Quote) None
    (λ e. quote_written t.kind (text_of l t) e (All-head (IsTokenIn l.text) t [] h).written) tt
quote_said l (t ∷ u ∷ ts) h = tt

article_said : (l : Layout) (ts : List Token) → All (IsTokenIn l.text) ts → IfSome (article_form l ts) (CanBeSaid l ts)
unfolding article
article_said l [] h = tt
article_said l (t ∷ ts) h =
    let P = CanBeSaid l (t ∷ ts) in
    chosen P (is_name l ts) (article l t) None
    (λ e.
    chosen P (is_indefinite l t) _ _ (λ a. tt)
    (chosen P (is_this_word l (codes "the") t) _ _ (λ a. name_quotable l ts (All-tail (IsTokenIn l.text) t ts h) e)
    (chosen P (is_this_word l (codes "which") t) _ _ (λ a. tt) tt))) tt

value_said : (l : Layout) (ts : List Token) (n d : Option ℤ) → IfSome n IsNumber → IfSome d IsDay → IsQuotable (phrase_name l ts) → CanBeSaid l ts (value_form n d)
value_said l ts (Some n) d h k w = h
value_said l ts None (Some d) h k w = k
value_said l ts None None h k w = w

name_said : (l : Layout) (ts : List Token) → IsQuotable (phrase_name l ts) → CanBeSaid l ts (name_form l ts)
unfolding word_form
name_said l [] h = h
name_said l (t ∷ []) h = value_said l (t ∷ []) (number_of (text_of l t)) (day_of (text_of l t)) (number_in_range (text_of l t)) (day_in_range (text_of l t)) h
name_said l (t ∷ u ∷ ts) h = h

-- the form of a phrase without brackets says what a term may have
pub form_said : (l : Layout) (ts : List Token) → All (IsTokenIn l.text) ts → IfSome (simple_form l ts) (CanBeSaid l ts)
unfolding simple_form
form_said l ts h =
    let P = CanBeSaid l ts in
    either P (quote_form ts) (option_or (article_form l ts) (constant_form l ts)) (quote_said l ts h)
    (either P (article_form l ts) (constant_form l ts) (article_said l ts h)
    (chosen P (is_name l ts && not (begins_otherwise l ts)) (Some (name_form l ts)) None
    (λ e. name_said l ts (name_quotable l ts h (and_parts (is_name l ts) (not (begins_otherwise l ts)) e).0)) tt))
