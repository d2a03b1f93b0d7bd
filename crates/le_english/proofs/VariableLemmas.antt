-- The phrase of a variable reads as the variable, and what was printed of a text before.
use Rattle.std.proofs.Common.{◌≡◌, ◌==◌, ◌⊎◌, inl, inr, ℕ, ◌+◌, ◌^◌, ◌<◌, ◌≤◌, Bool, true, false, not, ◌||◌, List, [], ◌∷◌, ◌++◌, map, length, codes, decimal, Some, None, Ok, sym, refl, ap, ap₂, ◌∙◌, subst, ⊎_elim, arith, append-nil, append_assoc, length-append}
use Rattle.std.specs.Char.{is_ascii_digit, to_ascii_lowercase}
use Rattle.std.specs.List.{list_all, list_any}
use Rattle.std.specs.Str.{bytes_eq}
use Rattle.std.proofs.lemmas.Bool.{cases_Bool, cond-true, cond-false, and_parts, and_from, and_left, or_from, eqb-true, eq-eqb, ne_eqb}
use Rattle.std.proofs.lemmas.Bool.Decides.{nat_tests}
use Rattle.std.proofs.lemmas.List.{length-map, map-append}
use Rattle.std.proofs.lemmas.Iterator.Adapters.{position_from-zero}
use Rattle.le_layout.specs.Words.{same_word}
use Rattle.le_templates.specs.declared.part.Template.{Template}
use Rattle.le_terms.specs.Tree.{variable}
use Rattle.le_scope.specs.declared.phrase.PhraseForm.TheVariants as forms
use Rattle.le_scope.specs.Phrases.{is_plain_word, connectives, particles}
use Rattle.le_scope.specs.Scopes.{ScopeState, place_of, with_name}
use Rattle.le_english.specs.Phrases.{word_of, is_seen, variable_phrase}
use Rattle.le_english.specs.Atoms.{thing_name, index_of, printed, scope_of}
use Rattle.le_english.proofs.PhraseLemmas.{ReadsSimply, HasForm, first-reads, later-reads, a-form, the-form}
use Rattle.le_english.proofs.ThingLemmas.{AllSmall, decimal-some, decimal-digits, place-thing, place-none, place-len, index-last}

-- digits are a plain word
apart : (c d : ℕ) (cs ds : List ℕ) → (c == d) ≡ false → bytes_eq (c ∷ cs) (d ∷ ds) ≡ false
apart c d cs ds h = and_left (c == d) (bytes_eq cs ds) h

digit-not : (c d : ℕ) → is_ascii_digit c ≡ true → (d < 48) → (c == d) ≡ false
digit-not c d h l = ne_eqb c d (λ (e : c ≡ d). grind (arith, nat_tests, h, l, e))

lower-not : (c d : ℕ) → is_ascii_digit c ≡ true → (96 < d) → (to_ascii_lowercase c == d) ≡ false
lower-not c d h l = ne_eqb (to_ascii_lowercase c) d (λ (e : to_ascii_lowercase c ≡ d). grind (arith, nat_tests, h, l, e))

digit-above : (c d : ℕ) → is_ascii_digit c ≡ true → (96 < d) → (c == d) ≡ false
digit-above c d h l = ne_eqb c d (λ (e : c ≡ d). grind (arith, nat_tests, h, l, e))

lower-apart : (c d : ℕ) (cs ds : List ℕ) → is_ascii_digit c ≡ true → 96 < d → bytes_eq (to_ascii_lowercase c ∷ map to_ascii_lowercase cs) (d ∷ map to_ascii_lowercase ds) ≡ false
lower-apart c d cs ds h l = apart (to_ascii_lowercase c) d (map to_ascii_lowercase cs) (map to_ascii_lowercase ds) (lower-not c d h l)

no-connective : (c : ℕ) (cs : List ℕ) → is_ascii_digit c ≡ true → list_any (same_word (c ∷ cs)) connectives ≡ false
no-connective c cs h =
    or_from _ _ (lower-apart c 105 cs (codes "f") h (omega arith))
    (or_from _ _ (lower-apart c 97 cs (codes "nd") h (omega arith))
    (or_from _ _ (lower-apart c 111 cs (codes "r") h (omega arith))
    (or_from _ _ (lower-apart c 119 cs (codes "hich") h (omega arith))
    (or_from _ _ (lower-apart c 101 cs (codes "ach") h (omega arith)) refl))))

no-particle : (c : ℕ) (cs : List ℕ) → is_ascii_digit c ≡ true → list_any (bytes_eq (c ∷ cs)) particles ≡ false
no-particle c cs h =
    or_from _ _ (apart c 43 cs [] (digit-not c 43 h (omega arith)))
    (or_from _ _ (apart c 45 cs [] (digit-not c 45 h (omega arith)))
    (or_from _ _ (apart c 47 cs [] (digit-not c 47 h (omega arith)))
    (or_from _ _ (apart c 97 cs [] (digit-above c 97 h (omega arith)))
    (or_from _ _ (apart c 97 cs (codes "n") (digit-above c 97 h (omega arith))) refl))))

pub digits-plain : (d : List ℕ) → list_all is_ascii_digit d ≡ true → 0 < length d → is_plain_word d ≡ true
unfolding is_plain_word
digits-plain [] h n = absurd (omega arith)
digits-plain (c ∷ cs) h n =
    let first = (and_parts (is_ascii_digit c) (list_all is_ascii_digit cs) h).0 in
    and_from _ _ (ap not (no-connective c cs first)) (ap not (no-particle c cs first))

-- a variable
abbrev pub is_printed : List ℕ → ℕ → Bool
is_printed ks v = list_any (λ m. v == m) ks

pub printed-new : (ks : List ℕ) (v : ℕ) → is_printed ks v ≡ false → printed ks (v ∷ []) ≡ ks ++ v ∷ []
printed-new ks v h = cond-false (is_printed ks v) _ _ h

pub printed-old : (ks : List ℕ) (v : ℕ) → is_printed ks v ≡ true → printed ks (v ∷ []) ≡ ks
printed-old ks v h = cond-true (is_printed ks v) _ _ h

scope-more : (limit : ℕ) (ks : List ℕ) (v : ℕ) → with_name (scope_of limit ks) (thing_name v) ≡ scope_of limit (ks ++ v ∷ [])
scope-more limit ks v = ap (λ (xs : List (List ℕ)). record { limit = limit; names = xs; asked = [] }) (sym (map-append thing_name ks (v ∷ [])))

pub variable-new : (seen : List ℕ) (v : ℕ) → is_seen seen v ≡ false → variable_phrase seen v ≡ word_of (codes "a") ∷ word_of (codes "thing") ∷ word_of (decimal v) ∷ []
unfolding variable_phrase
variable-new seen v h = ap (λ w. word_of w ∷ word_of (codes "thing") ∷ word_of (decimal v) ∷ []) (cond-false (is_seen seen v) _ _ h)

pub variable-old : (seen : List ℕ) (v : ℕ) → is_seen seen v ≡ true → variable_phrase seen v ≡ word_of (codes "the") ∷ word_of (codes "thing") ∷ word_of (decimal v) ∷ []
unfolding variable_phrase
variable-old seen v h = ap (λ w. word_of w ∷ word_of (codes "thing") ∷ word_of (decimal v) ∷ []) (cond-true (is_seen seen v) _ _ h)

flipped : (b : Bool) → (b ≡ false) ⊎ (b ≡ true)
flipped true = inr refl
flipped false = inl refl

pub variable-reads : (users : List Template) (names : List (List ℕ)) (limit : ℕ) (seen ks : List ℕ) (v : ℕ) → v < 2 ^ 64 → AllSmall ks → is_seen seen v ≡ is_printed ks v → length (printed ks (v ∷ [])) ≤ limit → ReadsSimply users names (scope_of limit ks) (variable_phrase seen v) (variable (index_of (printed ks (v ∷ [])) v)) (scope_of limit (printed ks (v ∷ [])))
variable-reads users names limit seen ks v small all agree room =
    let plain = digits-plain (decimal v) (decimal-digits v small) (decimal-some v small) in
    ⊎_elim (λ h. let e = printed-new ks v h in
    let free : place_of (scope_of limit ks) (thing_name v) ≡ None = position_from-zero (same_word (thing_name v)) (map thing_name ks) ∙ place-thing v 0 ks small all ∙ place-none v 0 ks h in
    let low : length (map thing_name ks) < limit = omega (arith, length-map ks thing_name, room, ap length e, length-append ks (v ∷ [])) in
    let read = first-reads users names (scope_of limit ks) (decimal v) plain free low in
    λ layout ts s. read layout ts (s ∙ variable-new seen v (agree ∙ h))
    ∙ ap₂ (λ n (after : ScopeState). Ok (record { value = variable n; names = names; scope = after }))
    (length-map ks thing_name ∙ sym (index-last ks v h) ∙ ap (λ xs. index_of xs v) (sym e))
    (scope-more limit ks v ∙ ap (scope_of limit) (sym e)))
    (λ h. let e = printed-old ks v h in
    let there : place_of (scope_of limit ks) (thing_name v) ≡ Some (index_of ks v) = position_from-zero (same_word (thing_name v)) (map thing_name ks) ∙ place-thing v 0 ks small all ∙ place-len v 0 ks h ∙ ap Some (zero-plus (index_of ks v)) in
    let read = later-reads users names (scope_of limit ks) (index_of ks v) (decimal v) plain there in
    λ layout ts s. read layout ts (s ∙ variable-old seen v (agree ∙ h))
    ∙ ap (λ xs. Ok (record { value = variable (index_of xs v); names = names; scope = scope_of limit xs })) (sym e))
    (flipped (is_printed ks v))
  where
    zero-plus : (n : ℕ) → 0 + n ≡ n
    zero-plus n = omega arith

-- what was printed of a text
abbrev pub Agree : List ℕ → List ℕ → Type 0
Agree seen ks = (u : ℕ) → is_seen seen u ≡ is_printed ks u

any-append : (u : ℕ) (xs ys : List ℕ) → list_any (λ m. u == m) (xs ++ ys) ≡ (list_any (λ m. u == m) xs || list_any (λ m. u == m) ys)
any-append u [] ys = refl
any-append u (x ∷ xs) ys = ap (λ b. (u == x) || b) (any-append u xs ys) ∙ or-assoc (u == x) (list_any (λ m. u == m) xs) (list_any (λ m. u == m) ys)
  where
    or-assoc : (a b c : Bool) → (a || (b || c)) ≡ ((a || b) || c)
    or-assoc true b c = refl
    or-assoc false b c = refl

or-last : (b : Bool) → (b || (false || false)) ≡ b
or-last true = refl
or-last false = refl

or-true : (b : Bool) → (b || (true || false)) ≡ true
or-true true = refl
or-true false = refl

pub agree-more : (seen ks : List ℕ) (v : ℕ) → Agree seen ks → Agree (seen ++ v ∷ []) (printed ks (v ∷ []))
agree-more seen ks v h u =
    any-append u seen (v ∷ []) ∙ ap (λ b. b || ((u == v) || false)) (h u)
    ∙ ⊎_elim (λ old. (⊎_elim (λ same. ap (λ b. is_printed ks u || (b || false)) same ∙ or-true (is_printed ks u) ∙ sym (ap (is_printed ks) (eqb-true u v same) ∙ old))
    (λ other. ap (λ b. is_printed ks u || (b || false)) other ∙ or-last (is_printed ks u))
    (cases_Bool (u == v))) ∙ ap (λ xs. is_printed xs u) (sym (printed-old ks v old)))
    (λ new. sym (any-append u ks (v ∷ [])) ∙ ap (λ xs. is_printed xs u) (sym (printed-new ks v new)))
    (cases_Bool (is_printed ks v))

pub printed-has : (ks : List ℕ) (v : ℕ) → is_printed (printed ks (v ∷ [])) v ≡ true
printed-has ks v =
    ⊎_elim (λ h. ap (λ xs. is_printed xs v) (printed-old ks v h) ∙ h)
    (λ h. ap (λ xs. is_printed xs v) (printed-new ks v h) ∙ any-append v ks (v ∷ []) ∙ ap (λ b. is_printed ks v || (b || false)) (eq-eqb v v refl) ∙ or-true (is_printed ks v))
    (cases_Bool (is_printed ks v))

pub record IsFront (ks all : List ℕ) : Type 0 where
  pub more : List ℕ
  pub whole : all ≡ ks ++ more

pub front-next : (ks vs : List ℕ) → IsFront ks (printed ks vs)
front-next ks [] = record { more = []; whole = sym (append-nil ks) }
front-next ks (v ∷ vs) =
    ⊎_elim (λ h. let f = front-next ks vs in record { more = f.more; whole = ap (λ xs. printed xs vs) (cond-true (is_printed ks v) ks (ks ++ v ∷ []) h) ∙ f.whole })
    (λ h. let f = front-next (ks ++ v ∷ []) vs in
    record { more = v ∷ f.more; whole = ap (λ xs. printed xs vs) (cond-false (is_printed ks v) ks (ks ++ v ∷ []) h) ∙ f.whole ∙ append_assoc ks (v ∷ []) f.more })
    (cases_Bool (is_printed ks v))

small-more : (ks : List ℕ) (v : ℕ) → AllSmall ks → v < 2 ^ 64 → AllSmall (ks ++ v ∷ [])
small-more [] v all h = (h, tt)
small-more (k ∷ ks) v all h = (all.0, small-more ks v all.1 h)

pub small-next : (ks : List ℕ) (v : ℕ) → AllSmall ks → v < 2 ^ 64 → AllSmall (printed ks (v ∷ []))
small-next ks v all h =
    ⊎_elim (λ k. subst AllSmall (sym (printed-old ks v k)) all) (λ k. subst AllSmall (sym (printed-new ks v k)) (small-more ks v all h)) (cases_Bool (is_printed ks v))

-- what follows is printed in two steps
pub printed-append : (ks us vs : List ℕ) → printed ks (us ++ vs) ≡ printed (printed ks us) vs
printed-append ks [] vs = refl
printed-append ks (u ∷ us) vs = printed-append (printed ks (u ∷ [])) us vs

pub agree-all : (seen ks vs : List ℕ) → Agree seen ks → Agree (seen ++ vs) (printed ks vs)
agree-all seen ks [] h u = ap (λ xs. is_seen xs u) (append-nil seen) ∙ h u
agree-all seen ks (v ∷ vs) h u =
    ap (λ xs. is_seen xs u) (sym (append_assoc seen (v ∷ []) vs))
    ∙ agree-all (seen ++ v ∷ []) (printed ks (v ∷ [])) vs (agree-more seen ks v h) u

pub front-all : (ks us all : List ℕ) → IsFront (printed ks us) all → IsFront ks all
front-all ks us all f =
    let g = front-next ks us in
    record { more = g.more ++ f.more; whole = f.whole ∙ ap (λ xs. xs ++ f.more) g.whole ∙ append_assoc ks g.more f.more }

pub front-length : (ks all : List ℕ) → IsFront ks all → length ks ≤ length all
front-length ks all f = omega (arith, ap length f.whole, length-append ks f.more)

-- the phrase of a variable has a form
pub variable-has : (seen : List ℕ) (v : ℕ) → v < 2 ^ 64 → HasForm (variable_phrase seen v)
variable-has seen v small =
    let plain = digits-plain (decimal v) (decimal-digits v small) (decimal-some v small) in
    ⊎_elim (λ h. subst HasForm (sym (variable-old seen v h)) (record { form = forms.The; is = the-form (decimal v) plain }))
    (λ h. subst HasForm (sym (variable-new seen v h)) (record { form = forms.A; is = a-form (decimal v) plain }))
    (cases_Bool (is_seen seen v))

pub refl-front : (ks : List ℕ) → IsFront ks ks
refl-front ks = record { more = []; whole = sym (append-nil ks) }
