-- The phrase of a name reads as its constant.
use Rattle.std.proofs.Common.{◌≡◌, ◌⊎◌, inl, inr, ℕ, suc, ◌-◌, ◌<◌, nat_le, Bool, true, false, cond, not, ◌&&◌, List, [], ◌∷◌, ◌++◌, map, length, drop, get_or, codes, slice_get, slice_range, Option, Some, None, Result, Ok, Err, sym, refl, ap, ◌∙◌, subst, ⊎_elim, arith}
use Rattle.std.specs.Option.{option_or}
use Rattle.std.specs.Str.{bytes_eq}
use Rattle.std.proofs.lemmas.Bool.{cases_Bool, cond-true, cond-false, and_parts, not-true}
use Rattle.std.proofs.lemmas.List.{length-take, length-drop}
use Rattle.std.proofs.lemmas.Iterator.Adapters.{position_from-zero}
use Rattle.std.proofs.lemmas.Slice.Eq.{bytes_eq-Decides}
use Rattle.le_base.specs.declared.stop.Refusal.{Refusal}
use Rattle.le_layout.specs.declared.token.Token.{Token}
use Rattle.le_layout.specs.declared.layout.Layout.{Layout}
use Rattle.le_layout.specs.Layout.{no_token, layout_of}
use Rattle.le_layout.specs.Spellings.{Spelling, spellings}
use Rattle.le_layout.specs.Words.{text_of, same_word, is_quote}
use Rattle.le_templates.specs.declared.part.Template.{Template}
use Rattle.le_templates.specs.Table.{ends_slot}
use Rattle.le_terms.specs.Tree.{constant}
use Rattle.le_terms.specs.Names.{HasNoRepeats}
use Rattle.le_values.specs.Numbers.{number_of}
use Rattle.le_values.specs.Days.{day_of}
use Rattle.std.specs.Prelude.{ℤ}
use Rattle.le_scope.specs.declared.phrase.PhraseForm.{PhraseForm}
use Rattle.le_scope.specs.declared.phrase.PhraseForm.TheVariants as forms
use Rattle.le_scope.specs.Phrases.{simple_form, phrase_form, phrase_name, is_name, word_form, value_form, begins_otherwise}
use Rattle.le_scope.proofs.ListForms.{other_form}
use Rattle.le_match.specs.Terms.{last_of}
use Rattle.le_english.specs.Phrases.{quoted, scanned_by, scanned, is_numbered_thing, last_token, is_plain_the, is_constant_by, is_plain_in, is_plain_name, name_phrase}
use Rattle.le_english.specs.Atoms.{scope_of}
use Rattle.le_english.proofs.Forms.{form_of, name_of}
use Rattle.le_english.proofs.FormLemmas.{form-said, name_of-said}
use Rattle.le_english.proofs.PhraseLemmas.{ReadsSimply, HasForm, last_text, spelled-last, quote-reads, quote-has, constant-reads, the-reads}
use Rattle.le_english.proofs.ThingLemmas.{AllSmall, place-other}

-- ---- `the` and a name

-- no word alone has the form of `the` and a name
word_not_the : (number day : Option ℤ) → value_form number day ≡ forms.The → ⊥
word_not_the (Some n) day e = cc e
word_not_the None (Some d) e = cc e
word_not_the None None e = cc e

-- a phrase that begins with `the` has a name after it
pub the_has_name : (layout : Layout) (ts : List Token) → simple_form layout ts ≡ Some forms.The → 1 < length ts
unfolding simple_form is_name word_form
the_has_name layout [] e = absurd (cc e)
the_has_name layout (t ∷ []) e =
    absurd (other (is_quote t.kind) (is_name layout (t ∷ []) && not (begins_otherwise layout (t ∷ []))) (value_form (number_of (text_of layout t)) (day_of (text_of layout t))) (word_not_the (number_of (text_of layout t)) (day_of (text_of layout t))) e)
  where
    other : (a b : Bool) (f : PhraseForm) → (f ≡ forms.The → ⊥) → option_or (cond a (Some forms.Quote) None) (cond b (Some f) None) ≡ Some forms.The → ⊥
    other true b f never e = cc e
    other false true f never e = never (cc e)
    other false false f never e = cc e
the_has_name layout (t ∷ u ∷ ts) e = omega arith

pub the_in_span : (layout : Layout) (n : ℕ) → phrase_form layout (slice_range layout.tokens 0 n) ≡ Some forms.The → 1 < length layout.tokens
the_in_span layout n e = omega (arith, the_has_name layout (slice_range layout.tokens 0 n) (other_form layout (slice_range layout.tokens 0 n) forms.The refl e), length-take (n - 0) (drop 0 layout.tokens), length-drop 0 layout.tokens)

-- the last of the tokens after the first is the last of all
last-after : (t : Token) (ts : List Token) → 1 < length (t ∷ ts) → last_token ts ≡ last_of (t ∷ ts)
last-after t [] h = absurd (omega arith)
last-after t (u ∷ us) h =
    let inner : length (u ∷ us) - 1 ≡ length us = omega arith in
    let outer : length (t ∷ u ∷ us) - 1 ≡ suc (length us) = omega arith in
    ap (λ k. get_or (u ∷ us) k no_token) inner ∙ sym (ap (λ k. get_or (t ∷ u ∷ us) k no_token) outer)

-- ---- a plain name

-- what says this is `the` and a name, and the constant of that name
pub record IsThe (users : List Template) (name : List ℕ) (ss : List Spelling) : Type 0 where
  pub first : Spelling
  pub rest : List Spelling
  pub whole : ss ≡ first ∷ rest
  pub form : form_of ss ≡ Some forms.The
  pub own : codes "the " ++ name_of rest ≡ name
  pub ends : ends_slot users (last_text ss) ≡ false
  pub other : is_numbered_thing (name_of rest) ≡ false

-- a name that is printed as it is
pub record IsPlain (users : List Template) (name : List ℕ) : Type 0 where
  pub layout : Layout
  pub scan : layout_of name ≡ Ok layout
  pub said : name_of (spellings layout layout.tokens) ≡ name
  pub form : (form_of (spellings layout layout.tokens) ≡ Some forms.Constant) ⊎ IsThe users name (spellings layout layout.tokens)

the-is : (users : List Template) (name : List ℕ) (layout : Layout) (ts : List Token) → simple_form layout ts ≡ Some forms.The → bytes_eq (codes "the " ++ phrase_name layout (drop 1 ts)) name ≡ true → is_plain_the users layout (drop 1 ts) ≡ true → IsThe users name (spellings layout ts)
unfolding is_plain_the
the-is users name layout [] f own plain = absurd (let long = the_has_name layout [] f in omega (arith, long))
the-is users name layout (t ∷ ts) f own plain =
    let long = the_has_name layout (t ∷ ts) f in
    let both = and_parts (not (ends_slot users (text_of layout (last_token ts)))) (not (is_numbered_thing (phrase_name layout ts))) plain in
    record {
      first = record { kind = t.kind; text = text_of layout t };
      rest = spellings layout ts;
      whole = refl;
      form = sym (form-said layout (t ∷ ts)) ∙ f;
      own = ap (λ n. codes "the " ++ n) (sym (name_of-said layout ts)) ∙ (bytes_eq-Decides (codes "the " ++ phrase_name layout ts) name).0 own;
      ends = ap (ends_slot users) (sym (spelled-last layout t ts _ _ refl) ∙ ap (text_of layout) (sym (last-after t ts long))) ∙ not-true _ both.0;
      other = ap is_numbered_thing (sym (name_of-said layout ts)) ∙ not-true _ both.1;
    }

form-is : (users : List Template) (name : List ℕ) (layout : Layout) (form : Option PhraseForm) → phrase_form layout layout.tokens ≡ form → is_constant_by users name layout form ≡ true → (form_of (spellings layout layout.tokens) ≡ Some forms.Constant) ⊎ IsThe users name (spellings layout layout.tokens)
form-is users name layout None e h = cc
form-is users name layout (Some forms.Constant) e h = inl (sym (form-said layout layout.tokens) ∙ other_form layout layout.tokens forms.Constant refl e)
form-is users name layout (Some forms.The) e h =
    let both = and_parts (bytes_eq (codes "the " ++ phrase_name layout (drop 1 layout.tokens)) name) (is_plain_the users layout (drop 1 layout.tokens)) h in
    inr (the-is users name layout layout.tokens (other_form layout layout.tokens forms.The refl e) both.0 both.1)
form-is users name layout (Some (forms.Number z)) e h = cc
form-is users name layout (Some (forms.Day z)) e h = cc
form-is users name layout (Some forms.Quote) e h = cc
form-is users name layout (Some forms.List) e h = cc
form-is users name layout (Some forms.A) e h = cc
form-is users name layout (Some forms.Which) e h = cc

plain-in : (users : List Template) (name : List ℕ) (r : Result Layout Refusal) → layout_of name ≡ r → is_plain_in users name r ≡ true → IsPlain users name
plain-in users name (Err refusal) e h = cc
plain-in users name (Ok layout) e h =
    let both = and_parts (bytes_eq (phrase_name layout layout.tokens) name) (is_constant_by users name layout (phrase_form layout layout.tokens)) h in
    record {
      layout = layout;
      scan = e;
      said = sym (name_of-said layout layout.tokens) ∙ (bytes_eq-Decides (phrase_name layout layout.tokens) name).0 both.0;
      form = form-is users name layout (phrase_form layout layout.tokens) refl both.1;
    }

pub plain-is : (users : List Template) (name : List ℕ) → is_plain_name users name ≡ true → IsPlain users name
unfolding is_plain_name
plain-is users name h = plain-in users name (layout_of name) refl (and_parts (nat_le (length name) 268_435_456) (is_plain_in users name (layout_of name)) h).1

pub scanned-is : (users : List Template) (name : List ℕ) (p : IsPlain users name) → scanned name ≡ spellings p.layout p.layout.tokens
scanned-is users name p = ap scanned_by p.scan

-- ---- the phrase of a name

pub name-plain : (users : List Template) (name : List ℕ) → is_plain_name users name ≡ true → name_phrase users name ≡ scanned name
unfolding name_phrase
name-plain users name h = cond-true (is_plain_name users name) _ _ h

pub name-quoted : (users : List Template) (name : List ℕ) → is_plain_name users name ≡ false → name_phrase users name ≡ quoted name ∷ []
unfolding name_phrase
name-quoted users name h = cond-false (is_plain_name users name) _ _ h

plain-has : (users : List Template) (name : List ℕ) (p : IsPlain users name) → HasForm (spellings p.layout p.layout.tokens)
plain-has users name p = ⊎_elim (λ c. record { form = forms.Constant; is = c }) (λ t. record { form = forms.The; is = t.form }) p.form

pub name-has : (users : List Template) (name : List ℕ) → HasForm (name_phrase users name)
name-has users name =
    ⊎_elim (λ h. let p = plain-is users name h in subst HasForm (sym (name-plain users name h ∙ scanned-is users name p)) (plain-has users name p))
    (λ h. subst HasForm (sym (name-quoted users name h)) (quote-has name))
    (cases_Bool (is_plain_name users name))

plain-reads : (users : List Template) (names : List (List ℕ)) (limit n : ℕ) (ks : List ℕ) (name : List ℕ) → HasNoRepeats names → slice_get names n ≡ Some name → AllSmall ks → (p : IsPlain users name) → ReadsSimply users names (scope_of limit ks) (spellings p.layout p.layout.tokens) (constant n) (scope_of limit ks)
plain-reads users names limit n ks name distinct at all p =
    ⊎_elim (λ c. constant-reads users names (scope_of limit ks) n name (spellings p.layout p.layout.tokens) distinct at c p.said)
    (λ t. let free = position_from-zero (same_word (name_of t.rest)) (map Rattle.le_english.specs.Atoms.thing_name ks) ∙ place-other (name_of t.rest) 0 ks t.other all in
    λ layout ts e. the-reads users names (scope_of limit ks) n name t.first t.rest distinct at (ap form_of (sym t.whole) ∙ t.form) t.own (ap (λ ss. ends_slot users (last_text ss)) (sym t.whole) ∙ t.ends) free layout ts (e ∙ t.whole))
    p.form

pub name-reads : (users : List Template) (names : List (List ℕ)) (limit n : ℕ) (ks : List ℕ) (name : List ℕ) → HasNoRepeats names → slice_get names n ≡ Some name → AllSmall ks → ReadsSimply users names (scope_of limit ks) (name_phrase users name) (constant n) (scope_of limit ks)
name-reads users names limit n ks name distinct at all layout ts e =
    ⊎_elim (λ h. let p = plain-is users name h in plain-reads users names limit n ks name distinct at all p layout ts (e ∙ name-plain users name h ∙ scanned-is users name p))
    (λ h. quote-reads users names (scope_of limit ks) n name distinct at layout ts (e ∙ name-quoted users name h))
    (cases_Bool (is_plain_name users name))
