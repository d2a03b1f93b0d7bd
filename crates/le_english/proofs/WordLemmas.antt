-- The tokens of a name are words.
use Rattle.std.proofs.Common.{◌≡◌, ◌<◌, nat_le, Bool, true, false, cond, not, ◌&&◌, ◌||◌, List, [], ◌∷◌, length, codes, Option, Some, None, sym, refl, ap, ap₂, ◌∙◌, ⊎_elim, arith}
use Rattle.std.specs.List.{list_all}
use Rattle.std.specs.Option.{option_or}
use Rattle.std.proofs.lemmas.Bool.{cases_Bool, cond-false, and_parts, and_from}
use Rattle.le_layout.specs.declared.token.Kind.{Kind}
use Rattle.le_layout.specs.declared.token.Kind.TheVariants as kinds
use Rattle.le_layout.specs.Spellings.{Spelling}
use Rattle.le_layout.specs.Words.{is_word, is_quote, is_star, same_word}
use Rattle.le_scope.specs.declared.phrase.PhraseForm.{PhraseForm}
use Rattle.le_scope.specs.declared.phrase.PhraseForm.TheVariants as forms
use Rattle.le_english.proofs.Forms.{is_plain, is_name, begins_otherwise, article, article_form, name_form, constant_form, form_of}

-- each token is a word
abbrev pub all_words : List Spelling → Bool
all_words ss = list_all (λ s. is_word s.kind) ss

pub word-kind : (k : Kind) → is_word k ≡ true → k ≡ kinds.Word
word-kind kinds.Word h = refl
word-kind kinds.Quote h = cc
word-kind kinds.Open h = cc
word-kind kinds.Close h = cc
word-kind kinds.Bar h = cc
word-kind kinds.Comma h = cc
word-kind kinds.Colon h = cc
word-kind kinds.Star h = cc
word-kind kinds.Stop h = cc

plain-words : (ss : List Spelling) → list_all is_plain ss ≡ true → all_words ss ≡ true
plain-words [] h = refl
plain-words (s ∷ ss) h =
    let both = and_parts (is_plain s) (list_all is_plain ss) h in
    and_from _ _ (and_parts (is_word s.kind) _ both.0).0 (plain-words ss both.1)

name-words : (ss : List Spelling) → is_name ss ≡ true → all_words ss ≡ true
name-words ss h = plain-words ss (and_parts (nat_le (length ss) 12) (list_all is_plain ss) (and_parts (nat_le 1 (length ss)) _ h).1).1

no_form : {f : PhraseForm} → None ≡ Some f → ⊥
no_form e = cc

constant-words : (ss : List Spelling) (f : PhraseForm) → constant_form ss ≡ Some f → all_words ss ≡ true
constant-words ss f e =
    ⊎_elim (λ h. name-words ss (and_parts (is_name ss) _ h).0)
    (λ h. absurd (no_form (sym (cond-false _ (Some (name_form ss)) None h) ∙ e)))
    (cases_Bool (is_name ss && not (begins_otherwise ss)))

no-article : (s : Spelling) → is_word s.kind ≡ false → article s ≡ None
no-article s h = ap (λ x. cond ((x && same_word s.text (codes "a")) || (x && same_word s.text (codes "an"))) (Some forms.A) (cond (x && same_word s.text (codes "the")) (Some forms.The) (cond (x && same_word s.text (codes "which")) (Some forms.Which) None))) h

article-word : (s : Spelling) (f : PhraseForm) → article s ≡ Some f → is_word s.kind ≡ true
article-word s f e = ⊎_elim (λ h. h) (λ h. absurd (no_form (sym (no-article s h) ∙ e))) (cases_Bool (is_word s.kind))

article-words : (s : Spelling) (ss : List Spelling) (f : PhraseForm) → option_or (article_form (s ∷ ss)) (constant_form (s ∷ ss)) ≡ Some f → all_words (s ∷ ss) ≡ true
article-words s ss f e =
    ⊎_elim (λ h. by-article h (article s) refl)
    (λ h. constant-words (s ∷ ss) f (sym (ap (λ b. option_or (cond b (article s) None) (constant_form (s ∷ ss))) h) ∙ e))
    (cases_Bool (is_name ss))
  where
    by-article : is_name ss ≡ true → (o : Option PhraseForm) → article s ≡ o → all_words (s ∷ ss) ≡ true
    by-article h None k = constant-words (s ∷ ss) f (sym (ap₂ (λ b o. option_or (cond b o None) (constant_form (s ∷ ss))) h k) ∙ e)
    by-article h (Some g) k = and_from _ _ (article-word s g k) (name-words ss h)

quote-only : {f : PhraseForm} → Some forms.Quote ≡ Some f → f ≡ forms.Quote
quote-only e = cc

-- the tokens of a phrase without brackets are words, but for a quoted text
pub form-words : (ss : List Spelling) (f : PhraseForm) → form_of ss ≡ Some f → (f ≡ forms.Quote → ⊥) → all_words ss ≡ true
unfolding form_of
form-words [] f e n = refl
form-words (s ∷ []) f e n =
    ⊎_elim (λ h. absurd (n (quote-only (sym (ap (λ b. option_or (cond b (Some forms.Quote) None) (option_or (article_form (s ∷ [])) (constant_form (s ∷ [])))) h) ∙ e))))
    (λ h. article-words s [] f (sym (ap (λ b. option_or (cond b (Some forms.Quote) None) (option_or (article_form (s ∷ [])) (constant_form (s ∷ [])))) h) ∙ e))
    (cases_Bool (is_quote s.kind))
form-words (s ∷ t ∷ ss) f e n = article-words s (t ∷ ss) f e

pub form-some : (ss : List Spelling) (f : PhraseForm) → form_of ss ≡ Some f → 0 < length ss
unfolding form_of
form-some [] f e = cc
form-some (s ∷ ss) f e = omega arith

-- words are no asterisks
pub words-no_star : (ss : List Spelling) → all_words ss ≡ true → list_all (λ s. not (is_star s.kind)) ss ≡ true
words-no_star [] h = refl
words-no_star (s ∷ ss) h =
    let both = and_parts (is_word s.kind) (all_words ss) h in
    and_from _ _ (ap (λ k. not (is_star k)) (word-kind s.kind both.0)) (words-no_star ss both.1)
