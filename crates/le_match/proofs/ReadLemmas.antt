-- The terms of a sentence's slots from left to right, and its atom.
use Rattle.std.proofs.Common.{◌≡◌, ℕ, ◌≤◌, Bool, Result, Ok, Err, List, [], ◌∷◌, ◌++◌, length, take, sym, refl, ap, ◌∙◌, arith, append_assoc}
use Rattle.std.proofs.lemmas.List.{take-take, length-take}
use Rattle.le_base.specs.declared.stop.Refusal.{Refusal}
use Rattle.le_base.specs.declared.stop.Stop.{Stop}
use Rattle.le_base.specs.declared.stop.Stop.TheVariants.{Refused, Memory}
use Rattle.le_layout.specs.declared.token.Token.{Token}
use Rattle.le_layout.specs.declared.layout.Layout.{Layout}
use Rattle.le_templates.specs.declared.part.Template.{Template}
use Rattle.le_terms.specs.Tree.{Tree}
use Rattle.le_scope.specs.Scopes.{ScopeState, first_names}
use Rattle.le_scope.proofs.AskedLemmas.{first_twice}
use Rattle.le_match.specs.Shares.{Share, word, phrase}
use Rattle.le_match.specs.declared.readings.BestReading.{BestReading}
use Rattle.le_match.specs.Readings.{best_of}
use Rattle.le_match.specs.Terms.{Found, term_of, onto_terms, terms_of, by_best, atom_of}
use Rattle.le_match.specs.Walks.{IsLongerScope}

-- ---- names and scopes that grow

pub front_short : (a b : List (List ℕ)) → take (length a) b ≡ a → length a ≤ length b
front_short a b h = let e = sym (length-take (length a) b) ∙ ap length h in omega arith

pub front_more : (a b c : List (List ℕ)) → take (length a) b ≡ a → take (length b) c ≡ b → take (length a) c ≡ a
front_more a b c h g = sym (take-take (length a) (length b) c (front_short a b h)) ∙ ap (take (length a)) g ∙ h

pub scope_more : (a b c : ScopeState) → IsLongerScope a b → IsLongerScope b c → IsLongerScope a c
scope_more a b c h g =
    let same : take (length a.names) b.names ≡ take (length a.names) a.names = ap (λ s. s.names) h.front in
    let short : length a.names ≤ length b.names = let e = ap length same in let f = length-take (length a.names) a.names in let k = length-take (length a.names) b.names in omega (arith, e, f, k) in
    record { front = sym (first_twice c (length a.names) (length b.names) short) ∙ ap (λ s. first_names s (length a.names)) g.front ∙ first_twice b (length a.names) (length b.names) short ∙ h.front }

-- ---- the terms

-- terms before those found
abbrev pub onto_all : List Tree → Result (Found (List Tree)) Refusal → Result (Found (List Tree)) Refusal
onto_all done (Ok f) = Ok (record { value = done ++ f.value; names = f.names; scope = f.scope })
onto_all done (Err refusal) = Err refusal

-- what is found with other terms
abbrev pub with_terms : Found (List Tree) → List Tree → Result (Found (List Tree)) Refusal
with_terms f ts = Ok (record { value = ts; names = f.names; scope = f.scope })

pub onto_all_none : (done : List Tree) (r : Result (Found (List Tree)) Refusal) → done ≡ [] → onto_all done r ≡ r
onto_all_none done r e = ap (λ d. onto_all d r) e ∙ same r
  where
    same : (q : Result (Found (List Tree)) Refusal) → onto_all [] q ≡ q
    same (Ok f) = refl
    same (Err refusal) = refl

pub onto_all_more : (done more : List Tree) (t : Tree) (r : Result (Found (List Tree)) Refusal) → more ≡ done ++ t ∷ [] → onto_all more r ≡ onto_all done (onto_terms t r)
onto_all_more done more t r e = ap (λ d. onto_all d r) e ∙ same r
  where
    same : (q : Result (Found (List Tree)) Refusal) → onto_all (done ++ t ∷ []) q ≡ onto_all done (onto_terms t q)
    same (Ok f) = ap (λ v. with_terms f v) (append_assoc done (t ∷ []) f.value)
    same (Err refusal) = refl

-- the next place is a word
pub terms_word : (us : List Template) (names : List (List ℕ)) (scope : ScopeState) (query : Bool) (l : Layout) (all rest : List Share) (t : Token) → all ≡ word t ∷ rest → terms_of us names scope query l all ≡ terms_of us names scope query l rest
terms_word us names scope query l all rest t e = ap (terms_of us names scope query l) e

-- the next place is a slot whose phrase has a term
pub terms_phrase : (us : List Template) (names : List (List ℕ)) (scope : ScopeState) (query : Bool) (l : Layout) (all rest : List Share) (ts : List Token) (f : Found Tree) → all ≡ phrase ts ∷ rest → term_of us names scope query l ts ≡ Ok f → terms_of us names scope query l all ≡ onto_terms f.value (terms_of us f.names f.scope query l rest)
terms_phrase us names scope query l all rest ts f e h =
    ap (terms_of us names scope query l) e
    ∙ ap (λ r. elim r as (λ _. Result (Found (List Tree)) Refusal) [ Ok f ↦ onto_terms f.value (terms_of us f.names f.scope query l rest) | Err refusal ↦ Err refusal ]) h

-- and where it is refused
pub terms_refused : (us : List Template) (names : List (List ℕ)) (scope : ScopeState) (query : Bool) (l : Layout) (all rest : List Share) (ts : List Token) (r : Refusal) → all ≡ phrase ts ∷ rest → term_of us names scope query l ts ≡ Err r → terms_of us names scope query l all ≡ Err r
terms_refused us names scope query l all rest ts r e h =
    ap (terms_of us names scope query l) e
    ∙ ap (λ r. elim r as (λ _. Result (Found (List Tree)) Refusal) [ Ok f ↦ onto_terms f.value (terms_of us f.names f.scope query l rest) | Err refusal ↦ Err refusal ]) h

-- a stop is the refusal that a definition gives, or out of memory
abbrev pub Halts : {Y : Type 0} → Stop → Result Y Refusal → Type 0
Halts (Refused e) given = given ≡ Err e
Halts Memory given = Unit {0}

-- a stop handed on: where the callee's definition refuses, so does the caller's
pub handed_on : {Y Z : Type 0} (given : Result Y Refusal) (all : Result Z Refusal) (stop : Stop) → Halts stop given → ((e : Refusal) → given ≡ Err e → all ≡ Err e) → Halts stop all
handed_on given all (Refused e) h step = step e h
handed_on given all Memory h step = tt

pub atom_is : (us : List Template) (names : List (List ℕ)) (scope : ScopeState) (query : Bool) (l : Layout) (ts : List Token) (b : BestReading) → best_of us l ts ≡ b → atom_of us names scope query l ts ≡ by_best us names scope query l ts b
unfolding atom_of
atom_is us names scope query l ts b e = ap (by_best us names scope query l ts) e
