-- The phrase of a name, and of a variable, reads as that constant, and as that variable.
use Rattle.std.proofs.Common.{◌≡◌, ℕ, zero, suc, ◌-◌, ◌<◌, ◌≤◌, nat_le, Bool, true, false, cond, ◌&&◌, ◌||◌, List, [], ◌∷◌, ◌++◌, length, get_or, slice_get, codes, Some, None, is_some, Ok, refl, ap, ap₂, ◌∙◌, arith, append-nil}
use Rattle.std.specs.Str.{bytes_eq}
use Rattle.std.specs.Option.{option_or}
use Rattle.std.proofs.lemmas.Bool.{cond-false, false_from_ne_true, leb-true}
use Rattle.std.proofs.lemmas.Slice.Eq.{bytes_eq-Decides}
use Rattle.le_layout.specs.declared.token.Token.{Token}
use Rattle.le_layout.specs.declared.layout.Layout.{Layout}
use Rattle.le_layout.specs.Layout.{no_token}
use Rattle.le_layout.specs.Words.{text_of}
use Rattle.le_templates.specs.declared.part.Template.{Template}
use Rattle.le_templates.specs.Table.{ends_slot}
use Rattle.le_terms.specs.Tree.{Tree, constant, variable}
use Rattle.le_terms.specs.Names.{is_named, HasNoRepeats}
use Rattle.le_terms.proofs.NameLists.{number_of_name-at, entered-there}
use Rattle.le_scope.specs.declared.phrase.PhraseForm.{PhraseForm}
use Rattle.le_scope.specs.declared.phrase.PhraseForm.TheVariants.{Quote, A, The, Constant}
use Rattle.le_scope.specs.declared.scope.Intro.TheVariants as intro
use Rattle.le_scope.specs.Phrases.{is_plain_word, is_simple_phrase, phrase_name}
use Rattle.le_scope.specs.Scopes.{ScopeState, place_of, introduction, introduced, with_name, after_introduction}
use Rattle.le_match.specs.Terms.{last_of, constant_found, by_introduction, by_place, by_simple_form, simple_term}
use Rattle.le_layout.specs.Spellings.{Spelling, spellings}
use Rattle.le_english.proofs.Forms.{constant_form, form_of, name_of}
use Rattle.le_english.specs.Phrases.{word_of, quoted}
use Rattle.le_english.proofs.FormLemmas.{form-said, name_of-said, simple-said}
use Rattle.le_english.proofs.ReadingLemmas.{spelled-head, spelled-tail, spelled-length}

-- a constant whose name is there
named-at : (names : List (List ℕ)) (n : ℕ) (name : List ℕ) → slice_get names n ≡ Some name → is_named names name ≡ true
named-at [] n name e = cc
named-at (x ∷ xs) zero name e = ap (λ b. b || is_named xs name) ((bytes_eq-Decides name x).1 (same x name e))
  where
    same : (a b : List ℕ) → Some a ≡ Some b → b ≡ a
    same a b e = cc
named-at (x ∷ xs) (suc n) name e = or_second (bytes_eq name x) (is_named xs name) (named-at xs n name e)
  where
    or_second : (a b : Bool) → b ≡ true → (a || b) ≡ true
    or_second true b h = refl
    or_second false b h = h

constant-back : (names : List (List ℕ)) (scope : ScopeState) (n : ℕ) (name : List ℕ) → HasNoRepeats names → slice_get names n ≡ Some name → constant_found names scope name ≡ Ok (record { value = constant n; names = names; scope = scope })
constant-back names scope n name distinct at =
    ap₂ (λ k ns. Ok (record { value = constant k; names = ns; scope = scope })) (number_of_name-at names n name distinct at) (entered-there names name (named-at names n name at))

-- what says this is a phrase without brackets, and reads as this term, wherever it stands
abbrev pub ReadsSimply : List Template → List (List ℕ) → ScopeState → List Spelling → Tree → ScopeState → Type 0
ReadsSimply users names scope phrase tree after =
    (layout : Layout) (ts : List Token) → spellings layout ts ≡ phrase → simple_term users names scope false layout ts ≡ Ok (record { value = tree; names = names; scope = after })

reads-form : (users : List Template) (names : List (List ℕ)) (scope : ScopeState) (layout : Layout) (ts : List Token) (ss : List Spelling) (form : PhraseForm) → spellings layout ts ≡ ss → form_of ss ≡ Some form → simple_term users names scope false layout ts ≡ by_simple_form users names scope false layout ts (Some form)
reads-form users names scope layout ts ss form e f = ap (by_simple_form users names scope false layout ts) (form-said layout ts ∙ ap form_of e ∙ f)

-- what has a form without brackets
pub record HasForm (ss : List Spelling) : Type 0 where
  pub form : PhraseForm
  pub is : form_of ss ≡ Some form

pub form-simple : (ss : List Spelling) (layout : Layout) (ts : List Token) → HasForm ss → spellings layout ts ≡ ss → is_simple_phrase layout ts ≡ true
form-simple ss layout ts f e = simple-said layout ts ss e ∙ ap is_some f.is

-- a quoted text
quote-form : (name : List ℕ) → form_of (quoted name ∷ []) ≡ Some Quote
unfolding form_of
quote-form name = refl

pub quote-reads : (users : List Template) (names : List (List ℕ)) (scope : ScopeState) (n : ℕ) (name : List ℕ) → HasNoRepeats names → slice_get names n ≡ Some name → ReadsSimply users names scope (quoted name ∷ []) (constant n) scope
quote-reads users names scope n name distinct at layout [] e = cc
quote-reads users names scope n name distinct at layout (t ∷ ts) e =
    reads-form users names scope layout (t ∷ ts) (quoted name ∷ []) Quote e (quote-form name)
    ∙ ap (λ (s : Spelling). constant_found names scope s.text) (spelled-head layout t ts (quoted name) [] e)
    ∙ constant-back names scope n name distinct at

pub quote-has : (name : List ℕ) → HasForm (quoted name ∷ [])
quote-has name = record { form = Quote; is = quote-form name }

-- a name printed as it is
pub constant-reads : (users : List Template) (names : List (List ℕ)) (scope : ScopeState) (n : ℕ) (name : List ℕ) (ss : List Spelling) → HasNoRepeats names → slice_get names n ≡ Some name → form_of ss ≡ Some Constant → name_of ss ≡ name → ReadsSimply users names scope ss (constant n) scope
constant-reads users names scope n name ss distinct at f same layout ts e =
    reads-form users names scope layout ts ss Constant e f
    ∙ ap (constant_found names scope) (name_of-said layout ts ∙ ap name_of e ∙ same)
    ∙ constant-back names scope n name distinct at

-- the text of the last of some tokens
abbrev pub last_text : List Spelling → List ℕ
last_text ss = (get_or ss (length ss - 1) (word_of [])).text

spelled-at : (layout : Layout) (ts : List Token) (k : ℕ) → k < length ts → text_of layout (get_or ts k no_token) ≡ (get_or (spellings layout ts) k (word_of [])).text
spelled-at layout [] k h = absurd (omega arith)
spelled-at layout (t ∷ ts) zero h = refl
spelled-at layout (t ∷ ts) (suc k) h = spelled-at layout ts k (omega arith)

pub spelled-last : (layout : Layout) (t : Token) (ts : List Token) (s : Spelling) (ss : List Spelling) → spellings layout (t ∷ ts) ≡ s ∷ ss → text_of layout (last_of (t ∷ ts)) ≡ last_text (s ∷ ss)
spelled-last layout t ts s ss e =
    spelled-at layout (t ∷ ts) (length (t ∷ ts) - 1) (omega arith)
    ∙ ap₂ (λ xs k. (get_or xs (k - 1) (word_of [])).text) e (spelled-length layout (t ∷ ts) (s ∷ ss) e)

pub the-reads : (users : List Template) (names : List (List ℕ)) (scope : ScopeState) (n : ℕ) (name : List ℕ) (s : Spelling) (ss : List Spelling) → HasNoRepeats names → slice_get names n ≡ Some name → form_of (s ∷ ss) ≡ Some The → codes "the " ++ name_of ss ≡ name → ends_slot users (last_text (s ∷ ss)) ≡ false → place_of scope (name_of ss) ≡ None → ReadsSimply users names scope (s ∷ ss) (constant n) scope
the-reads users names scope n name s ss distinct at f same ends free layout [] e = cc
the-reads users names scope n name s ss distinct at f same ends free layout (t ∷ ts) e =
    let own : phrase_name layout ts ≡ name_of ss = name_of-said layout ts ∙ ap name_of (spelled-tail layout t ts s ss e) in
    reads-form users names scope layout (t ∷ ts) (s ∷ ss) The e f
    ∙ ap₂ (λ last own. by_place users names scope t last own (place_of scope own)) (spelled-last layout t ts s ss e) own
    ∙ ap (by_place users names scope t (last_text (s ∷ ss)) (name_of ss)) free
    ∙ cond-false (ends_slot users (last_text (s ∷ ss))) _ _ ends
    ∙ ap (constant_found names scope) same
    ∙ constant-back names scope n name distinct at

-- a variable, at its first place and later
abbrev pub thing_of : List ℕ → List ℕ
thing_of digits = codes "thing " ++ digits

abbrev pub variable_words : List ℕ → List ℕ → List Spelling
variable_words article digits = word_of article ∷ word_of (codes "thing") ∷ word_of digits ∷ []

thing-plain : is_plain_word (codes "thing") ≡ true
unfolding is_plain_word
thing-plain = refl

pub a-form : (digits : List ℕ) → is_plain_word digits ≡ true → form_of (variable_words (codes "a") digits) ≡ Some A
unfolding form_of
a-form digits h = ap₂ (λ x y. option_or (cond (x && (y && true)) (Some A) None) (constant_form (variable_words (codes "a") digits))) thing-plain h

pub the-form : (digits : List ℕ) → is_plain_word digits ≡ true → form_of (variable_words (codes "the") digits) ≡ Some The
unfolding form_of
the-form digits h = ap₂ (λ x y. option_or (cond (x && (y && true)) (Some The) None) (constant_form (variable_words (codes "the") digits))) thing-plain h

thing-name : (digits : List ℕ) → name_of (word_of (codes "thing") ∷ word_of digits ∷ []) ≡ thing_of digits
unfolding name_of
thing-name digits = ap (λ xs. codes "thing " ++ xs) (append-nil digits)

pub first-reads : (users : List Template) (names : List (List ℕ)) (scope : ScopeState) (digits : List ℕ) → is_plain_word digits ≡ true → place_of scope (thing_of digits) ≡ None → length scope.names < scope.limit → ReadsSimply users names scope (variable_words (codes "a") digits) (variable (length scope.names)) (with_name scope (thing_of digits))
unfolding introduction
first-reads users names scope digits p free room layout [] e = cc
first-reads users names scope digits p free room layout (t ∷ ts) e =
    let own : phrase_name layout ts ≡ thing_of digits = name_of-said layout ts ∙ ap name_of (spelled-tail layout t ts _ _ e) ∙ thing-name digits in
    let new : introduction scope (thing_of digits) ≡ intro.New (length scope.names) =
    ap (λ o. cond (is_some o) intro.Again (cond (nat_le scope.limit (length scope.names)) intro.Full (intro.New (length scope.names)))) free
    ∙ cond-false (nat_le scope.limit (length scope.names)) _ _ (false_from_ne_true _ (λ h. let l : scope.limit ≤ length scope.names = leb-true scope.limit (length scope.names) h in omega arith)) in
    reads-form users names scope layout (t ∷ ts) (variable_words (codes "a") digits) A e (a-form digits p)
    ∙ ap (λ name. by_introduction names (introduced scope name) t (introduction scope name)) own
    ∙ ap (λ i. by_introduction names (after_introduction scope (thing_of digits) i) t i) new

pub later-reads : (users : List Template) (names : List (List ℕ)) (scope : ScopeState) (n : ℕ) (digits : List ℕ) → is_plain_word digits ≡ true → place_of scope (thing_of digits) ≡ Some n → ReadsSimply users names scope (variable_words (codes "the") digits) (variable n) scope
later-reads users names scope n digits p there layout [] e = cc
later-reads users names scope n digits p there layout (t ∷ ts) e =
    let own : phrase_name layout ts ≡ thing_of digits = name_of-said layout ts ∙ ap name_of (spelled-tail layout t ts _ _ e) ∙ thing-name digits in
    reads-form users names scope layout (t ∷ ts) (variable_words (codes "the") digits) The e (the-form digits p)
    ∙ ap (λ name. by_place users names scope t (text_of layout (last_of (t ∷ ts))) name (place_of scope name)) own
    ∙ ap (by_place users names scope t (text_of layout (last_of (t ∷ ts))) (thing_of digits)) there
