-- The steps of the walks over the tokens of a span.
use Rattle.std.proofs.Common.{◌≡◌, ℕ, ◌+◌, ◌-◌, ◌<◌, ◌≤◌, Bool, false, cond, ◌&&◌, List, [], ◌∷◌, ◌++◌, length, map, flat_map, get_or, drop, slice_range, Option, None, Some, sym, refl, ap, ◌∙◌, arith, append_assoc, Bor}
use Rattle.std.specs.List.{list_all}
use Rattle.std.proofs.lemmas.List.{drop_more, append-nil, length-take, length-drop}
use Rattle.le_layout.specs.declared.token.Token.{Token}
use Rattle.le_layout.specs.declared.layout.Layout.{Layout}
use Rattle.le_layout.specs.Layout.{no_token}
use Rattle.le_layout.specs.Words.{text_of, token_of, is_quote, is_this_word}
use Rattle.le_layout.proofs.SpanLemmas.{slice_more, slice_none}
use Rattle.le_scope.specs.declared.phrase.PhraseForm.{PhraseForm}
use Rattle.le_scope.specs.declared.phrase.PhraseForm.TheVariants.{Quote, Constant}
use Rattle.le_scope.specs.Phrases.{is_name, is_plain, begins_with, article, quote_form, word_form, name_form, article_form, simple_form}

-- the tokens from one place up to another
abbrev pub span : Layout → ℕ → ℕ → List Token
span l from to = slice_range l.tokens from to

pub span_more : (l : Layout) (at to : ℕ) → at < to → to ≤ length l.tokens → span l at to ≡ token_of l at ∷ span l (at + 1) to
span_more l at to low high = slice_more l.tokens at to no_token low high

pub span_none : (l : Layout) (at to : ℕ) → to ≤ at → span l at to ≡ []
span_none l at to h = slice_none l.tokens at to h

pub span_one : (l : Layout) (at to : ℕ) → to - at ≡ 1 → to ≤ length l.tokens → span l at to ≡ token_of l at ∷ []
span_one l at to one high = span_more l at to (omega (arith, one)) high ∙ ap (λ ts. token_of l at ∷ ts) (span_none l (at + 1) to (omega (arith, one)))

-- ---- plain words

pub plain_more : (l : Layout) (at to : ℕ) (b all : Bool) → at < to → to ≤ length l.tokens → b ≡ is_plain l (token_of l at) → list_all (is_plain l) (span l at to) ≡ all → (b && list_all (is_plain l) (span l (at + 1) to)) ≡ all
plain_more l at to b all low high e h =
    ap (λ c. c && list_all (is_plain l) (span l (at + 1) to)) e ∙ sym (ap (list_all (is_plain l)) (span_more l at to low high)) ∙ h

-- ---- the front

abbrev pub now_of : List (Bor (List ℕ)) → List (List ℕ)
now_of words = map (λ w. w.now) words

abbrev pub no_text : Bor (List ℕ)
no_text = record { ref_ptr = (0, 0); now = [] }

pub front_short : (l : Layout) (at to i : ℕ) (words : List (Bor (List ℕ))) (all : Bool) → to ≤ at → i < length words → begins_with l (span l at to) (now_of (drop i words)) ≡ all → false ≡ all
front_short l at to i words all h k e =
    sym (ap (begins_with l (span l at to)) (ap now_of (drop_more words i no_text k))
    ∙ ap (λ ts. begins_with l ts (now_of (get_or words i no_text ∷ drop (i + 1) words))) (span_none l at to h)) ∙ e

pub front_more : (l : Layout) (at to i : ℕ) (words : List (Bor (List ℕ))) (b all : Bool) → at < to → to ≤ length l.tokens → i < length words → b ≡ is_this_word l (get_or words i no_text).now (token_of l at) → begins_with l (span l at to) (now_of (drop i words)) ≡ all → (b && begins_with l (span l (at + 1) to) (now_of (drop (i + 1) words))) ≡ all
front_more l at to i words b all low high k e h =
    ap (λ c. c && begins_with l (span l (at + 1) to) (now_of (drop (i + 1) words))) e
    ∙ sym (ap (begins_with l (span l at to)) (ap now_of (drop_more words i no_text k))
    ∙ ap (λ ts. begins_with l ts (now_of (get_or words i no_text ∷ drop (i + 1) words))) (span_more l at to low high))
    ∙ h

-- ---- the forms

pub quote_one : (ts : List Token) (t : Token) (b : Bool) → ts ≡ t ∷ [] → b ≡ is_quote t.kind → cond b (Some Quote) None ≡ quote_form ts
quote_one ts t b e k = ap (λ c. cond c (Some Quote) None) k ∙ sym (ap quote_form e)

pub quote_other : (ts : List Token) → (length ts ≡ 1 → ⊥) → quote_form ts ≡ None
quote_other [] h = refl
quote_other (t ∷ []) h = absurd (h refl)
quote_other (t ∷ u ∷ ts) h = refl

pub name_other : (l : Layout) (ts : List Token) → (length ts ≡ 1 → ⊥) → Constant ≡ name_form l ts
name_other l [] h = refl
name_other l (t ∷ []) h = absurd (h refl)
name_other l (t ∷ u ∷ ts) h = refl

pub name_one : (l : Layout) (ts : List Token) (t : Token) (w : List ℕ) (f : PhraseForm) → ts ≡ t ∷ [] → w ≡ text_of l t → f ≡ word_form w → f ≡ name_form l ts
name_one l ts t w f e g h = h ∙ ap word_form g ∙ sym (ap (name_form l) e)

pub article_at : (l : Layout) (from to : ℕ) (b : Bool) (o : Option PhraseForm) → from < to → to ≤ length l.tokens → b ≡ is_name l (span l (from + 1) to) → o ≡ article l (token_of l from) → cond b o None ≡ article_form l (span l from to)
article_at l from to b o low high n a =
    ap (λ c. cond c o None) n
    ∙ ap (λ p. cond (is_name l (span l (from + 1) to)) p None) a
    ∙ sym (ap (article_form l) (span_more l from to low high))

pub length_span : (l : Layout) (from to : ℕ) → to ≤ length l.tokens → length (span l from to) ≡ to - from
length_span l from to high = omega (arith, length-take (to - from) (drop from l.tokens), length-drop from l.tokens)

pub no_form : (l : Layout) (from to : ℕ) → to ≤ from → None ≡ simple_form l (span l from to)
unfolding simple_form is_name
no_form l from to h = sym (ap (simple_form l) (span_none l from to h))
