-- No token of a phrase is an asterisk.
use Rattle.std.proofs.Common.{◌≡◌, Bool, true, false, ◌&&◌, not, cond, Option, Some, None, List, [], ◌∷◌, ◌++◌, refl, ap, ◌∙◌}
use Rattle.std.specs.List.{list_all}
use Rattle.std.specs.Option.{option_or, is_some}
use Rattle.std.proofs.lemmas.Bool.{and_parts}
use Rattle.le_layout.specs.declared.token.Kind.{Kind}
use Rattle.le_layout.specs.declared.token.Kind.TheVariants as kinds
use Rattle.le_layout.specs.declared.token.Token.{Token}
use Rattle.le_layout.specs.declared.layout.Layout.{Layout}
use Rattle.le_layout.specs.Words.{is_star}
use Rattle.le_scope.specs.declared.phrase.PhraseForm.{PhraseForm}
use Rattle.le_scope.specs.Phrases.{is_phrase, phrase_form, simple_form, is_simple_phrase, is_list_phrase}
use Rattle.le_scope.specs.Lists.{is_open, is_close, is_comma, is_bar, Phrase, simple, empty, list, Items, last, more, tail, spelled, items_spelled, IsPhraseOf, AreItemsOf}
use Rattle.le_scope.proofs.ListsLaw.{is_text, phrase_texts}
use Rattle.le_scope.proofs.LengthsLaw.{list_tree}

-- whether no token is an asterisk
abbrev pub is_starless : List Token → Bool
is_starless ts = list_all (λ t. not (is_star t.kind)) ts

-- a kind that a test takes is no asterisk, where the test takes none
pub no_star : (f : Kind → Bool) (k : Kind) → f kinds.Star ≡ false → f k ≡ true → is_star k ≡ false
no_star f kinds.Word e h = refl
no_star f kinds.Quote e h = refl
no_star f kinds.Open e h = refl
no_star f kinds.Close e h = refl
no_star f kinds.Bar e h = refl
no_star f kinds.Comma e h = refl
no_star f kinds.Colon e h = refl
no_star f kinds.Star e h = absurd (cc)
no_star f kinds.Stop e h = refl

one_more : (t : Token) (ts : List Token) → is_star t.kind ≡ false → is_starless ts ≡ true → is_starless (t ∷ ts) ≡ true
one_more t ts e h = ap (λ b. not b && is_starless ts) e ∙ h

both : (xs ys : List Token) → is_starless xs ≡ true → is_starless ys ≡ true → is_starless (xs ++ ys) ≡ true
both [] ys h k = k
both (x ∷ xs) ys h k =
    let p = and_parts (not (is_star x.kind)) (is_starless xs) h in
    ap (λ b. b && is_starless (xs ++ ys)) p.0 ∙ both xs ys p.1 k

texts_starless : (ts : List Token) → list_all (λ t. is_text t.kind) ts ≡ true → is_starless ts ≡ true
texts_starless [] h = refl
texts_starless (t ∷ ts) h =
    let p = and_parts (is_text t.kind) (list_all (λ t. is_text t.kind) ts) h in
    one_more t ts (no_star is_text t.kind refl p.0) (texts_starless ts p.1)

simple_starless : (l : Layout) (ts : List Token) → is_simple_phrase l ts ≡ true → is_starless ts ≡ true
simple_starless l [] h = refl
simple_starless l (t ∷ ts) h = texts_starless (t ∷ ts) (phrase_texts l t ts h)

mutual
  tree_starless : (l : Layout) (p : Phrase) → IsPhraseOf l p → is_starless (spelled p) ≡ true
  tree_starless l (simple ts) h = simple_starless l ts h
  tree_starless l (empty opening closing) h =
      one_more opening (closing ∷ []) (no_star is_open opening.kind refl h.0) (one_more closing [] (no_star is_close closing.kind refl h.1) refl)
  tree_starless l (list opening items) h = one_more opening (items_spelled items) (no_star is_open opening.kind refl h.0) (items_starless l items h.1)

  items_starless : (l : Layout) (is : Items) → AreItemsOf l is → is_starless (items_spelled is) ≡ true
  items_starless l (last p closing) h =
      both (spelled p) (closing ∷ []) (tree_starless l p h.0) (one_more closing [] (no_star is_close closing.kind refl h.1) refl)
  items_starless l (more p comma is) h =
      both (spelled p) (comma ∷ items_spelled is) (tree_starless l p h.0)
      (one_more comma (items_spelled is) (no_star is_comma comma.kind refl h.1) (items_starless l is h.2))
  items_starless l (tail p bar q closing) h =
      both (spelled p) (bar ∷ (spelled q ++ closing ∷ [])) (tree_starless l p h.0)
      (one_more bar (spelled q ++ closing ∷ []) (no_star is_bar bar.kind refl h.1)
      (both (spelled q) (closing ∷ []) (tree_starless l q h.2) (one_more closing [] (no_star is_close closing.kind refl h.3) refl)))

list_starless : (l : Layout) (ts : List Token) → is_list_phrase l ts ≡ true → is_starless ts ≡ true
list_starless l ts h = let p = list_tree l ts h in ap is_starless p.whole ∙ tree_starless l p.phrase p.valid

-- no token of a phrase is an asterisk
pub phrase_starless : (l : Layout) (ts : List Token) → is_phrase l ts ≡ true → is_starless ts ≡ true
unfolding phrase_form
phrase_starless l ts h = cases (simple_form l ts) refl (is_list_phrase l ts) refl h
  where
    cases : (s : Option PhraseForm) → simple_form l ts ≡ s → (b : Bool) → is_list_phrase l ts ≡ b → is_some (option_or s (cond b (Some Rattle.le_scope.specs.declared.phrase.PhraseForm.TheVariants.List) None)) ≡ true → is_starless ts ≡ true
    cases (Some f) e b g k = simple_starless l ts (ap is_some e)
    cases None e true g k = list_starless l ts g
    cases None e false g k = absurd (cc)
