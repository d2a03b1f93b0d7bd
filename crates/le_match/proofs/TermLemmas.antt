-- The terms of phrases.
use Rattle.std.proofs.Common.{◌≡◌, ℕ, ◌+◌, ◌-◌, ◌<◌, ◌≤◌, Bool, true, false, cond, Option, Some, None, Result, Ok, Err, List, ◌++◌, codes, length, drop, get_or, slice_range, sym, refl, ap, ◌∙◌, subst, arith}
use Rattle.std.proofs.lemmas.List.{get_or-take, get_or-drop}
use Rattle.le_base.specs.declared.code.Code.TheVariants.{Dangling}
use Rattle.le_base.specs.declared.stop.Refusal.{Refusal}
use Rattle.le_base.specs.declared.stop.Stop.{Stop}
use Rattle.le_base.specs.declared.stop.Stop.TheVariants.{Refused}
use Rattle.le_base.specs.Stop.{Gives, refusal_at}
use Rattle.le_layout.specs.declared.token.Token.{Token}
use Rattle.le_layout.specs.declared.layout.Layout.{Layout}
use Rattle.le_layout.specs.Layout.{no_token}
use Rattle.le_layout.specs.Words.{token_of}
use Rattle.le_templates.specs.declared.part.Template.{Template}
use Rattle.le_templates.specs.Table.{ends_slot}
use Rattle.le_terms.specs.Tree.{Tree, constant, variable}
use Rattle.le_terms.specs.Names.{number_of_name, entered}
use Rattle.le_scope.specs.declared.phrase.PhraseForm.{PhraseForm}
use Rattle.le_scope.specs.declared.phrase.PhraseForm.TheVariants as form
use Rattle.le_scope.specs.declared.scope.Intro.{Intro}
use Rattle.std.specs.Option.{option_or, is_some}
use Rattle.le_scope.specs.Phrases.{simple_form, is_simple_phrase, list_form, phrase_form}
use Rattle.le_scope.specs.Scopes.{ScopeState, place_of, introduction, introduced, introduced_by_which}
use Rattle.le_match.specs.Terms.{Found, first_of, last_of, constant_found, by_introduction, introducing, asking, by_place, by_simple_form, by_form, term_of}
use Rattle.le_match.proofs.CutLemmas.{next, rest_of, span_length}

-- ---- the tokens of a phrase

pub first_is : (l : Layout) (from to : ℕ) → from < to → to ≤ length l.tokens → first_of (slice_range l.tokens from to) ≡ token_of l from
first_is l from to low high = ap first_of (next l from to low high)

pub last_is : (l : Layout) (from to : ℕ) → from < to → to ≤ length l.tokens → last_of (slice_range l.tokens from to) ≡ token_of l (to - 1)
last_is l from to low high =
    let n = to - from in
    let size : length (slice_range l.tokens from to) ≡ n = span_length l.tokens from to (omega arith) high in
    let below : n - 1 < n = omega arith in
    let place : from + (n - 1) ≡ to - 1 = omega arith in
    ap (λ k. get_or (slice_range l.tokens from to) (k - 1) no_token) size
    ∙ get_or-take n (drop from l.tokens) (n - 1) no_token below ∙ get_or-drop from l.tokens (n - 1) no_token
    ∙ ap (λ k. get_or l.tokens k no_token) place

pub behind_is : (l : Layout) (from to : ℕ) → from < to → drop 1 (slice_range l.tokens from to) ≡ slice_range l.tokens (from + 1) to
behind_is l from to low =
    let one : 1 ≡ from + 1 - from = omega arith in
    ap (λ k. drop k (slice_range l.tokens from to)) one ∙ rest_of l.tokens from (from + 1) to (omega arith) (omega arith)

-- ---- what is found

pub gives_refused : {X Y : Type 0} (view : X → Y) (s : Stop) (r : Refusal) (given : Result Y Refusal) → s ≡ Refused r → given ≡ Err r → Gives view (Err s) given
gives_refused view s r given e h = let P : Stop → Type 0 = λ x. Gives view (Err x) given in subst P (sym e) h

pub gives_as : {X Y : Type 0} (view : X → Y) (r : Result X Stop) (a b : Result Y Refusal) → a ≡ b → Gives view r b → Gives view r a
gives_as {X} {Y} view r a b e h = let P : Result Y Refusal → Type 0 = λ x. Gives view r x in subst P (sym e) h

-- a term, names and a scope that are these
abbrev pub made : Tree → List (List ℕ) → ScopeState → Result (Found Tree) Refusal
made t ns s = Ok (record { value = t; names = ns; scope = s })

pub found_is : (t u : Tree) (ns ms : List (List ℕ)) (s r : ScopeState) → t ≡ u → ns ≡ ms → s ≡ r → made u ms r ≡ made t ns s
found_is t u ns ms s r e f g = ap (λ v. made v ms r) (sym e) ∙ ap (λ k. made t k r) (sym f) ∙ ap (λ z. made t ns z) (sym g)

pub constant_is : (names more : List (List ℕ)) (scope : ScopeState) (name same : List ℕ) (t : Tree) → name ≡ same → t ≡ constant (number_of_name names name) → more ≡ entered names name → constant_found names scope same ≡ Ok (record { value = t; names = more; scope = scope })
constant_is names more scope name same t e f g =
    ap (constant_found names scope) (sym e) ∙ found_is t (constant (number_of_name names name)) more (entered names name) scope scope f g refl

pub introducing_is : (names : List (List ℕ)) (scope after : ScopeState) (first : Token) (name same : List ℕ) (i : Intro) → name ≡ same → i ≡ introduction scope name → after ≡ introduced scope name → introducing names scope first same ≡ by_introduction names after first i
introducing_is names scope after first name same i e a s =
    ap (introducing names scope first) (sym e) ∙ ap (λ z. by_introduction names z first (introduction scope name)) (sym s) ∙ ap (by_introduction names after first) (sym a)

pub asking_is : (names : List (List ℕ)) (scope after : ScopeState) (first : Token) (name same : List ℕ) (i : Intro) → name ≡ same → i ≡ introduction scope name → after ≡ introduced_by_which scope name → asking names scope first same ≡ by_introduction names after first i
asking_is names scope after first name same i e a s =
    ap (asking names scope first) (sym e) ∙ ap (λ z. by_introduction names z first (introduction scope name)) (sym s) ∙ ap (by_introduction names after first) (sym a)

pub there_is : (us : List Template) (names : List (List ℕ)) (scope : ScopeState) (first : Token) (last name same : List ℕ) (n : ℕ) (t : Tree) → name ≡ same → place_of scope name ≡ Some n → t ≡ variable n → by_place us names scope first last same (place_of scope same) ≡ Ok (record { value = t; names = names; scope = scope })
there_is us names scope first last name same n t e i f =
    ap (λ k. by_place us names scope first last k (place_of scope k)) (sym e) ∙ ap (by_place us names scope first last name) i
    ∙ found_is t (variable n) names names scope scope f refl refl

pub dangles : (us : List Template) (names : List (List ℕ)) (scope : ScopeState) (first : Token) (last name same : List ℕ) → name ≡ same → place_of scope name ≡ None → ends_slot us last ≡ true → by_place us names scope first last same (place_of scope same) ≡ Err (refusal_at Dangling first.line first.column)
dangles us names scope first last name same e i h =
    ap (λ k. by_place us names scope first last k (place_of scope k)) (sym e) ∙ ap (by_place us names scope first last name) i
    ∙ ap (λ b. cond b (Err (refusal_at Dangling first.line first.column)) (constant_found names scope (codes "the " ++ name))) h

pub the_is : (us : List Template) (names more : List (List ℕ)) (scope : ScopeState) (first : Token) (last name same text : List ℕ) (t : Tree) → name ≡ same → place_of scope name ≡ None → ends_slot us last ≡ false → text ≡ codes "the " ++ name → t ≡ constant (number_of_name names text) → more ≡ entered names text → by_place us names scope first last same (place_of scope same) ≡ Ok (record { value = t; names = more; scope = scope })
the_is us names more scope first last name same text t e i h is f g =
    ap (λ k. by_place us names scope first last k (place_of scope k)) (sym e) ∙ ap (by_place us names scope first last name) i
    ∙ ap (λ b. cond b (Err (refusal_at Dangling first.line first.column)) (constant_found names scope (codes "the " ++ name))) h
    ∙ constant_is names more scope text (codes "the " ++ name) t is f g

pub form_is : (us : List Template) (names : List (List ℕ)) (scope : ScopeState) (query : Bool) (l : Layout) (ts : List Token) (f given : PhraseForm) → given ≡ f → by_simple_form us names scope query l ts (Some given) ≡ by_simple_form us names scope query l ts (Some f)
form_is us names scope query l ts f given e = ap (λ g. by_simple_form us names scope query l ts (Some g)) e

pub by_form_is : (us : List Template) (names : List (List ℕ)) (scope : ScopeState) (query : Bool) (l : Layout) (ts : List Token) (f : Option PhraseForm) → phrase_form l ts ≡ f → term_of us names scope query l ts ≡ by_form us names scope query l ts f
unfolding term_of
by_form_is us names scope query l ts f e = ap (by_form us names scope query l ts) e

-- a phrase that isn't a list
pub other_form : (us : List Template) (names : List (List ℕ)) (scope : ScopeState) (query : Bool) (l : Layout) (ts : List Token) (f : PhraseForm) → (f ≡ form.List → ⊥) → by_form us names scope query l ts (Some f) ≡ by_simple_form us names scope query l ts (Some f)
other_form us names scope query l ts (form.Number z) m = refl
other_form us names scope query l ts (form.Day z) m = refl
other_form us names scope query l ts form.Quote m = refl
other_form us names scope query l ts form.List m = absurd (m refl)
other_form us names scope query l ts form.A m = refl
other_form us names scope query l ts form.The m = refl
other_form us names scope query l ts form.Which m = refl
other_form us names scope query l ts form.Constant m = refl

-- ---- phrases without brackets

-- the form of a phrase without brackets is that of the phrase
pub simple_is : (l : Layout) (ts : List Token) (o : Option PhraseForm) → is_simple_phrase l ts ≡ true → phrase_form l ts ≡ o → simple_form l ts ≡ o
unfolding phrase_form
simple_is l ts o h e = first (simple_form l ts) h ∙ e
  where
    first : (s : Option PhraseForm) → is_some s ≡ true → s ≡ option_or s (list_form l ts)
    first (Some f) h = refl
    first None h = absurd (cc)
