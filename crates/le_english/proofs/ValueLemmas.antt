-- A number and a date read as themselves.
use Rattle.std.proofs.Common.{◌≡◌, ◌==◌, ℕ, true, false, List, [], ◌∷◌, length, take, slice_index, Some, None, is_some, sym, refl, ap, ◌∙◌, ⊎_elim, arith}
use Rattle.std.specs.Prelude.{ℤ}
use Rattle.std.specs.Char.{is_ascii_digit}
use Rattle.std.specs.List.{list_all}
use Rattle.std.proofs.lemmas.Bool.{cases_Bool, cond-false, and_parts, both_ways, eqb-true}
use Rattle.std.proofs.lemmas.List.Folds.{list_all_at}
use Rattle.le_layout.specs.declared.token.Token.{Token}
use Rattle.le_layout.specs.declared.layout.Layout.{Layout}
use Rattle.le_layout.specs.Spellings.{Spelling, spellings}
use Rattle.le_layout.specs.Words.{is_word}
use Rattle.le_templates.specs.declared.part.Template.{Template}
use Rattle.le_terms.specs.Tree.{number, date}
use Rattle.le_values.specs.Numbers.{number_of, is_number_word, after_minus}
use Rattle.le_values.specs.Days.{day_of, is_date_word, day_of_date, word_year, word_month, word_day}
use Rattle.le_values.proofs.NumberLemmas.{digits_have_no_minus, number_of-no_word}
use Rattle.le_scope.specs.declared.phrase.PhraseForm.{PhraseForm}
use Rattle.le_scope.specs.declared.phrase.PhraseForm.TheVariants as forms
use Rattle.le_scope.specs.Phrases.{simple_form, is_simple_phrase}
use Rattle.le_scope.specs.Scopes.{ScopeState}
use Rattle.le_scope.proofs.ListForms.{other_form}
use Rattle.le_scope.proofs.ValueLemmas.{number_is, day_is}
use Rattle.le_match.specs.Terms.{by_simple_form}
use Rattle.le_english.specs.Phrases.{word_of}
use Rattle.le_english.proofs.PhraseLemmas.{ReadsSimply}
use Rattle.le_english.proofs.ReadingLemmas.{spelled-head}

-- no date is a number
no_value : {z : ℤ} → None ≡ Some z → ⊥
no_value e = cc

date_form : (text : List ℕ) (day : ℤ) → day_of text ≡ Some day → is_date_word text ≡ true
unfolding day_of
date_form text day e =
    ⊎_elim (λ h. h)
    (λ h. absurd (no_value (sym (cond-false (is_date_word text) (day_of_date (word_year text) (word_month text) (word_day text)) None h) ∙ e)))
    (cases_Bool (is_date_word text))

-- what a word of the form of a date has
record DateForm (text : List ℕ) : Type 0 where
  long : length text ≡ 10
  year : list_all is_ascii_digit (take 4 text) ≡ true
  first : slice_index text 4 ≡ 45

date_parts : (text : List ℕ) → is_date_word text ≡ true → DateForm text
date_parts text h =
    let five = and_parts _ _ h in
    let four = and_parts _ _ five.0 in
    let three = and_parts _ _ four.0 in
    let two = and_parts _ _ three.0 in
    let one = and_parts _ _ two.0 in
    record { long = eqb-true _ _ one.0; year = one.1; first = eqb-true _ _ two.1 }

number_digits : (c : ℕ) (cs : List ℕ) → is_number_word (c ∷ cs) ≡ true → (c == 45) ≡ false → list_all is_ascii_digit (c ∷ cs) ≡ true
number_digits c cs h k = ap (list_all is_ascii_digit) (sym (cond-false (c == 45) cs (c ∷ cs) k)) ∙ (and_parts _ (list_all is_ascii_digit (after_minus (c ∷ cs))) h).1

date_no_number : (text : List ℕ) → DateForm text → is_number_word text ≡ true → ⊥
date_no_number [] d h = absurd (cc)
date_no_number (c ∷ cs) d h =
    let digits = number_digits c cs h (digits_have_no_minus (take 4 (c ∷ cs)) d.year) in
    both_ways (list_all is_ascii_digit (c ∷ cs)) (list_all_at is_ascii_digit (c ∷ cs) 4 0 (omega (arith, d.long)) (ap is_ascii_digit d.first)) digits

pub date-other : (text : List ℕ) (day : ℤ) → day_of text ≡ Some day → number_of text ≡ None
date-other text day e =
    ⊎_elim (λ h. absurd (date_no_number text (date_parts text (date_form text day e)) h))
    (λ h. sym (number_of-no_word text h))
    (cases_Bool (is_number_word text))

-- one word
form-number : (layout : Layout) (t : Token) (text : List ℕ) (n : ℤ) → spellings layout (t ∷ []) ≡ word_of text ∷ [] → number_of text ≡ Some n → simple_form layout (t ∷ []) ≡ Some (forms.Number n)
form-number layout t text n e v =
    let said = spelled-head layout t [] (word_of text) [] e in
    other_form layout (t ∷ []) (forms.Number n) refl (number_is layout t n (ap (λ (s : Spelling). is_word s.kind) said) (ap (λ (s : Spelling). number_of s.text) said ∙ v))

form-date : (layout : Layout) (t : Token) (text : List ℕ) (n : ℤ) → spellings layout (t ∷ []) ≡ word_of text ∷ [] → day_of text ≡ Some n → simple_form layout (t ∷ []) ≡ Some (forms.Day n)
form-date layout t text n e v =
    let said = spelled-head layout t [] (word_of text) [] e in
    other_form layout (t ∷ []) (forms.Day n) refl (day_is layout t n (ap (λ (s : Spelling). is_word s.kind) said) (ap (λ (s : Spelling). number_of s.text) said ∙ date-other text n v) (ap (λ (s : Spelling). day_of s.text) said ∙ v))

-- one word of this form is a phrase without brackets, and reads so
one-simple : (layout : Layout) (ts : List Token) (form : PhraseForm) → simple_form layout ts ≡ Some form → is_simple_phrase layout ts ≡ true
one-simple layout ts form e = ap is_some e

pub number-simple : (text : List ℕ) (n : ℤ) → number_of text ≡ Some n → (layout : Layout) (ts : List Token) → spellings layout ts ≡ word_of text ∷ [] → is_simple_phrase layout ts ≡ true
number-simple text n v layout [] e = cc
number-simple text n v layout (t ∷ []) e = one-simple layout (t ∷ []) (forms.Number n) (form-number layout t text n e v)
number-simple text n v layout (t ∷ u ∷ ts) e = cc

pub date-simple : (text : List ℕ) (n : ℤ) → day_of text ≡ Some n → (layout : Layout) (ts : List Token) → spellings layout ts ≡ word_of text ∷ [] → is_simple_phrase layout ts ≡ true
date-simple text n v layout [] e = cc
date-simple text n v layout (t ∷ []) e = one-simple layout (t ∷ []) (forms.Day n) (form-date layout t text n e v)
date-simple text n v layout (t ∷ u ∷ ts) e = cc

pub number-reads : (users : List Template) (names : List (List ℕ)) (scope : ScopeState) (text : List ℕ) (n : ℤ) → number_of text ≡ Some n → ReadsSimply users names scope (word_of text ∷ []) (number n) scope
number-reads users names scope text n v layout [] e = cc
number-reads users names scope text n v layout (t ∷ []) e = ap (by_simple_form users names scope false layout (t ∷ [])) (form-number layout t text n e v)
number-reads users names scope text n v layout (t ∷ u ∷ ts) e = cc

pub date-reads : (users : List Template) (names : List (List ℕ)) (scope : ScopeState) (text : List ℕ) (n : ℤ) → day_of text ≡ Some n → ReadsSimply users names scope (word_of text ∷ []) (date n) scope
date-reads users names scope text n v layout [] e = cc
date-reads users names scope text n v layout (t ∷ []) e = ap (by_simple_form users names scope false layout (t ∷ [])) (form-date layout t text n e v)
date-reads users names scope text n v layout (t ∷ u ∷ ts) e = cc
