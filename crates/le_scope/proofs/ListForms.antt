-- Tokens have the form of a list exactly where they have a tree that is a list.
use Rattle.std.proofs.Common.{◌≡◌, Bool, true, false, cond, not, ◌&&◌, Option, Some, None, List, [], ◌∷◌, codes, refl, ap, ◌∙◌, ℤ}
use Rattle.std.specs.Option.{option_or}
use Rattle.le_layout.specs.declared.token.Token.{Token}
use Rattle.le_layout.specs.declared.layout.Layout.{Layout}
use Rattle.le_layout.specs.Words.{text_of, is_quote, is_this_word}
use Rattle.le_values.specs.Numbers.{number_of}
use Rattle.le_values.specs.Days.{day_of}
use Rattle.le_scope.specs.declared.phrase.PhraseForm.{PhraseForm}
use Rattle.le_scope.specs.declared.phrase.PhraseForm.TheVariants as forms
use Rattle.le_scope.specs.Simple.{is_name, begins_otherwise, is_indefinite, article, quote_form, article_form, value_form, word_form, name_form, constant_form, simple_form}
use Rattle.le_scope.specs.Lists.{is_open, Phrase, simple, empty, list, spelled, IsPhraseOf, is_list, IsListOf}
use Rattle.le_scope.specs.Phrases.{is_list_phrase, list_form, phrase_form}
use Rattle.le_scope.proofs.LengthsLaw.{no_simple, list_tree, tree_list}
use Rattle.le_scope.proofs.RowLemmas.{none_is}

-- whether a form is that of a list
abbrev pub is_list_form : Option PhraseForm → Bool
is_list_form (Some forms.List) = true
is_list_form _ = false

either : (a b : Option PhraseForm) → is_list_form a ≡ false → is_list_form b ≡ false → is_list_form (option_or a b) ≡ false
either (Some f) b e g = e
either None b e g = g

chosen : (b : Bool) (o p : Option PhraseForm) → is_list_form o ≡ false → is_list_form p ≡ false → is_list_form (cond b o p) ≡ false
chosen true o p e g = e
chosen false o p e g = g

no_quote_list : (ts : List Token) → is_list_form (quote_form ts) ≡ false
no_quote_list [] = refl
no_quote_list (t ∷ []) = chosen (is_quote t.kind) (Some forms.Quote) None refl refl
no_quote_list (t ∷ u ∷ ts) = refl

no_article : (l : Layout) (t : Token) → is_list_form (article l t) ≡ false
unfolding article
no_article l t =
    chosen (is_indefinite l t) _ _ refl
    (chosen (is_this_word l (codes "the") t) _ _ refl
    (chosen (is_this_word l (codes "which") t) _ _ refl refl))

no_article_list : (l : Layout) (ts : List Token) → is_list_form (article_form l ts) ≡ false
no_article_list l [] = refl
no_article_list l (t ∷ ts) = chosen (is_name l ts) (article l t) None (no_article l t) refl

no_value : (n d : Option ℤ) → is_list_form (Some (value_form n d)) ≡ false
no_value (Some n) d = refl
no_value None (Some d) = refl
no_value None None = refl

no_name : (l : Layout) (ts : List Token) → is_list_form (Some (name_form l ts)) ≡ false
unfolding word_form
no_name l [] = refl
no_name l (t ∷ []) = no_value (number_of (text_of l t)) (day_of (text_of l t))
no_name l (t ∷ u ∷ ts) = refl

-- no phrase without brackets has the form of a list
no_simple_list : (l : Layout) (ts : List Token) → is_list_form (simple_form l ts) ≡ false
unfolding simple_form
no_simple_list l ts =
    either (quote_form ts) (option_or (article_form l ts) (constant_form l ts)) (no_quote_list ts)
    (either (article_form l ts) (constant_form l ts) (no_article_list l ts)
    (chosen (is_name l ts && not (begins_otherwise l ts)) (Some (name_form l ts)) None (no_name l ts) refl))

pub form_tree : (l : Layout) (ts : List Token) → phrase_form l ts ≡ Some forms.List → IsListOf l ts
unfolding phrase_form
form_tree l ts h = list_tree l ts (cases (simple_form l ts) (is_list_phrase l ts) (no_simple_list l ts) h)
  where
    cases : (o : Option PhraseForm) (b : Bool) → is_list_form o ≡ false → option_or o (cond b (Some forms.List) None) ≡ Some forms.List → b ≡ true
    cases (Some f) b e g = absurd (let k = ap is_list_form g in cc)
    cases None true e g = refl
    cases None false e g = absurd (cc)

open_list : (l : Layout) (t : Token) (ts : List Token) → is_open t.kind ≡ true → is_list_phrase l (t ∷ ts) ≡ true → phrase_form l (t ∷ ts) ≡ Some forms.List
unfolding phrase_form
open_list l t ts o h =
    ap (λ f. option_or f (list_form l (t ∷ ts))) (none_is (simple_form l (t ∷ ts)) (no_simple l t ts o))
    ∙ ap (λ b. cond b (Some forms.List) None) h

pub tree_form : (l : Layout) (p : Phrase) → IsPhraseOf l p → is_list p ≡ true → phrase_form l (spelled p) ≡ Some forms.List
tree_form l (simple ts) h k = absurd (cc)
tree_form l (empty opening closing) h k = open_list l opening (closing ∷ []) h.0 (tree_list l (empty opening closing) h k)
tree_form l (list opening items) h k = open_list l opening _ h.0 (tree_list l (list opening items) h k)

-- a form that isn't that of a list is that of a phrase without brackets
pub other_form : (l : Layout) (ts : List Token) (f : PhraseForm) → is_list_form (Some f) ≡ false → phrase_form l ts ≡ Some f → simple_form l ts ≡ Some f
unfolding phrase_form
other_form l ts f other h = cases (simple_form l ts) (is_list_phrase l ts) h
  where
    cases : (o : Option PhraseForm) (b : Bool) → option_or o (cond b (Some forms.List) None) ≡ Some f → o ≡ Some f
    cases (Some g) b e = e
    cases None true e = absurd (let k = ap is_list_form e ∙ other in cc)
    cases None false e = absurd (cc)
