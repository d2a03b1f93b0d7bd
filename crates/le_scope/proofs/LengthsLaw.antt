-- The lengths of the phrases at a token, lists among them, are all numbers from one to another.
use Rattle.std.proofs.Common.{◌≡◌, ℕ, zero, suc, ◌==◌, ◌<◌, ◌≤◌, Bool, true, false, cond, ◌&&◌, ◌||◌, nat_le, Option, Some, None, List, [], ◌∷◌, ◌++◌, length, take, drop, sym, refl, ap, ◌∙◌, arith}
use Rattle.std.specs.List.{list_all}
use Rattle.std.specs.Option.{is_some, option_or}
use Rattle.std.proofs.lemmas.Bool.{and_parts, cond-false, cond-true, eqb-true, eq-eqb, le-leb, leb-true, lt-leb}
use Rattle.std.proofs.lemmas.List.{append-nil, length-append, length-take-le, take-append-drop, take_at}
use Rattle.le_layout.specs.declared.token.Token.{Token}
use Rattle.le_layout.specs.declared.layout.Layout.{Layout}
use Rattle.le_scope.specs.declared.phrase.PhraseForm.{PhraseForm}
use Rattle.le_scope.specs.declared.phrase.PhraseForm.TheVariants.{List as ListForm}
use Rattle.le_scope.specs.Simple.{is_name, simple_form, is_simple_phrase}
use Rattle.le_scope.specs.Lists.{is_open, Phrase, simple, empty, list, spelled, IsPhraseOf, is_list, IsListOf, first_row}
use Rattle.le_scope.specs.Phrases.{is_list_phrase, phrase_form, is_phrase}
use Rattle.le_scope.specs.Lengths.{is_length, one_length, simple_lengths, phrase_lengths}
use Rattle.le_scope.proofs.SimpleLaw.{same_test}
use Rattle.le_scope.proofs.SimpleLaw.{in_a_row as simple_in_a_row, some_length as simple_some, lengths_within as simple_within}
use Rattle.le_scope.proofs.ListsLaw.{is_text, text_open, phrase_texts, list_found, phrase_is, list_is}

-- ---- tokens that are one list

list_phrase : (l : Layout) (t : Token) (ts : List Token) → is_open t.kind ≡ true → (first_row l (t ∷ ts)).phrase ≡ length (t ∷ ts) → is_list_phrase l (t ∷ ts) ≡ true
list_phrase l t ts o e =
    ap (λ b. b && ((first_row l (t ∷ ts)).phrase == length (t ∷ ts))) o
    ∙ ap (λ n. n == length (t ∷ ts)) e ∙ eq-eqb (length (t ∷ ts)) (length (t ∷ ts)) refl

-- the tokens of a tree that is a list are one
pub tree_list : (l : Layout) (p : Phrase) → IsPhraseOf l p → is_list p ≡ true → is_list_phrase l (spelled p) ≡ true
tree_list l (simple ts) h k = absurd (cc)
tree_list l (empty opening closing) h k = list_phrase l opening (closing ∷ []) h.0 (list_found l (empty opening closing) [] h k)
tree_list l (list opening items) h k =
    list_phrase l opening _ h.0 (ap (λ s. (first_row l s).phrase) (sym (append-nil (spelled (list opening items)))) ∙ list_found l (list opening items) [] h k)

none_left : {X : Type 0} (xs : List X) → length xs ≡ 0 → xs ≡ []
none_left [] e = refl
none_left (x ∷ xs) e = absurd (omega (arith, e))

-- tokens that are one list have a tree
pub list_tree : (l : Layout) (ts : List Token) → is_list_phrase l ts ≡ true → IsListOf l ts
list_tree l [] h = absurd (cc)
list_tree l (t ∷ ts) h =
    let both = and_parts (is_open t.kind) ((first_row l (t ∷ ts)).phrase == length (t ∷ ts)) h in
    let all = eqb-true (first_row l (t ∷ ts)).phrase (length (t ∷ ts)) both.1 in
    let p = phrase_is l (t ∷ ts) (omega (arith, all)) in
    let size = p.size in
    let whole = ap length p.split in
    let parts = length-append (spelled p.phrase) p.rest in
    let none : length p.rest ≡ 0 = omega (arith, all, size, whole, parts) in
    record {
      phrase = p.phrase;
      valid = p.valid;
      lists = list_is l t ts p.phrase p.rest p.valid p.split both.0;
      whole = p.split ∙ ap (λ s. spelled p.phrase ++ s) (none_left p.rest none) ∙ append-nil (spelled p.phrase);
    }

-- ---- phrases

form_or : (a : Option PhraseForm) (b : Bool) → is_some (option_or a (cond b (Some ListForm) None)) ≡ (is_some a || b)
form_or (Some f) b = refl
form_or None true = refl
form_or None false = refl

-- a phrase is one without brackets, or a list
pub phrase_or_list : (l : Layout) (ts : List Token) → is_phrase l ts ≡ (is_simple_phrase l ts || is_list_phrase l ts)
unfolding phrase_form
phrase_or_list l ts = form_or (simple_form l ts) (is_list_phrase l ts)

pub none_phrase : (l : Layout) → is_phrase l [] ≡ false
unfolding phrase_form simple_form is_name
none_phrase l = refl

or_none : (b : Bool) → (b || false) ≡ b
or_none true = refl
or_none false = refl

-- no phrase without brackets begins with an opening bracket
pub no_simple : (l : Layout) (t : Token) (ts : List Token) → is_open t.kind ≡ true → is_simple_phrase l (t ∷ ts) ≡ false
no_simple l t ts o = cases (is_simple_phrase l (t ∷ ts)) refl
  where
    cases : (b : Bool) → is_simple_phrase l (t ∷ ts) ≡ b → b ≡ false
    cases false e = refl
    cases true e =
        let texts = (and_parts (is_text t.kind) (list_all (λ t. is_text t.kind) ts) (phrase_texts l t ts e)).0 in
        sym o ∙ text_open t.kind texts

closed_phrase : (l : Layout) (t : Token) (ts : List Token) → is_open t.kind ≡ false → is_phrase l (t ∷ ts) ≡ is_simple_phrase l (t ∷ ts)
closed_phrase l t ts o =
    phrase_or_list l (t ∷ ts)
    ∙ ap (λ b. is_simple_phrase l (t ∷ ts) || (b && ((first_row l (t ∷ ts)).phrase == length (t ∷ ts)))) o
    ∙ or_none (is_simple_phrase l (t ∷ ts))

open_phrase : (l : Layout) (t : Token) (ts : List Token) → is_open t.kind ≡ true → is_phrase l (t ∷ ts) ≡ is_list_phrase l (t ∷ ts)
open_phrase l t ts o = phrase_or_list l (t ∷ ts) ∙ ap (λ b. b || is_list_phrase l (t ∷ ts)) (no_simple l t ts o)

-- ---- the lengths at a token

pub closed_lengths : (l : Layout) (t : Token) (ts : List Token) → is_open t.kind ≡ false → phrase_lengths l (t ∷ ts) ≡ simple_lengths l (t ∷ ts)
unfolding phrase_lengths
closed_lengths l t ts o = cond-false (is_open t.kind) (one_length (first_row l (t ∷ ts)).phrase) (simple_lengths l (t ∷ ts)) o

pub open_lengths : (l : Layout) (t : Token) (ts : List Token) → is_open t.kind ≡ true → phrase_lengths l (t ∷ ts) ≡ one_length (first_row l (t ∷ ts)).phrase
unfolding phrase_lengths
open_lengths l t ts o = cond-true (is_open t.kind) (one_length (first_row l (t ∷ ts)).phrase) (simple_lengths l (t ∷ ts)) o

one_is : (r n : ℕ) → is_length (one_length r) n ≡ true → (r ≡ n) × (0 < r)
one_is zero n h =
    let both = and_parts (nat_le 1 n) (nat_le n 0) h in
    let low = leb-true 1 n both.0 in
    let high = leb-true n 0 both.1 in
    absurd (omega (arith, low, high))
one_is (suc r) n h =
    let both = and_parts (nat_le (suc r) n) (nat_le n (suc r)) h in
    let low = leb-true (suc r) n both.0 in
    let high = leb-true n (suc r) both.1 in
    (omega (arith, low, high), omega arith)

is_one : (n : ℕ) → is_length (one_length (suc n)) (suc n) ≡ true
is_one n = ap (λ b. b && nat_le (suc n) (suc n)) (le-leb (suc n) (suc n) (omega arith)) ∙ le-leb (suc n) (suc n) (omega arith)

-- at an opening bracket the first tokens are a list exactly where they are as many as the list there has
list_row : (l : Layout) (t : Token) (ts : List Token) (m : ℕ) → m ≤ length ts → is_open t.kind ≡ true → is_list_phrase l (t ∷ take m ts) ≡ is_length (one_length (first_row l (t ∷ ts)).phrase) (suc m)
list_row l t ts m h o = same_test (is_list_phrase l (t ∷ take m ts)) (is_length (one_length (first_row l (t ∷ ts)).phrase) (suc m)) there here
  where
    there : is_list_phrase l (t ∷ take m ts) ≡ true → is_length (one_length (first_row l (t ∷ ts)).phrase) (suc m) ≡ true
    there e =
        let p = list_tree l (t ∷ take m ts) e in
        let size : length (spelled p.phrase) ≡ suc m = sym (ap length p.whole) ∙ (let g = length-take-le m ts h in let k : length (t ∷ take m ts) ≡ suc m = omega (arith, g) in k) in
        let split : t ∷ ts ≡ spelled p.phrase ++ drop m ts = sym (take-append-drop (suc m) (t ∷ ts)) ∙ ap (λ s. s ++ drop m ts) p.whole in
        let found : (first_row l (t ∷ ts)).phrase ≡ suc m = ap (λ s. (first_row l s).phrase) split ∙ list_found l p.phrase (drop m ts) p.valid p.lists ∙ size in
        ap (λ r. is_length (one_length r) (suc m)) found ∙ is_one m

    here : is_length (one_length (first_row l (t ∷ ts)).phrase) (suc m) ≡ true → is_list_phrase l (t ∷ take m ts) ≡ true
    here e =
        let one = one_is (first_row l (t ∷ ts)).phrase (suc m) e in
        let p = phrase_is l (t ∷ ts) one.1 in
        let size : length (spelled p.phrase) ≡ suc m = sym p.size ∙ one.0 in
        let front : t ∷ take m ts ≡ spelled p.phrase = ap (take (suc m)) p.split ∙ take_at (spelled p.phrase) p.rest (suc m) size in
        ap (is_list_phrase l) front ∙ tree_list l p.phrase p.valid (list_is l t ts p.phrase p.rest p.valid p.split o)

-- a phrase has at least one token
pub some_length : (l : Layout) (ts : List Token) → 0 < (phrase_lengths l ts).least
unfolding phrase_lengths
some_length l [] = omega arith
some_length l (t ∷ ts) = cases (is_open t.kind) (first_row l (t ∷ ts)).phrase (simple_some l (t ∷ ts))
  where
    cases : (b : Bool) (r : ℕ) → 0 < (simple_lengths l (t ∷ ts)).least → 0 < (cond b (one_length r) (simple_lengths l (t ∷ ts))).least
    cases true zero h = omega arith
    cases true (suc r) h = omega arith
    cases false r h = h

pub one_most : (r : ℕ) → (one_length r).most ≡ r
one_most zero = refl
one_most (suc r) = refl

-- and no more than there are
pub lengths_within : (l : Layout) (ts : List Token) → (phrase_lengths l ts).most ≤ length ts
unfolding phrase_lengths
lengths_within l [] = omega arith
lengths_within l (t ∷ ts) = cases (is_open t.kind) (first_row l (t ∷ ts)).phrase refl
  where
    cases : (b : Bool) (r : ℕ) → r ≡ (first_row l (t ∷ ts)).phrase → (cond b (one_length r) (simple_lengths l (t ∷ ts))).most ≤ length (t ∷ ts)
    cases true zero e = omega arith
    cases true (suc r) e =
        let p = phrase_is l (t ∷ ts) (omega (arith, e)) in
        let size = p.size in
        let whole = ap length p.split in
        let parts = length-append (spelled p.phrase) p.rest in
        let most = one_most (suc r) in
        omega (arith, e, size, whole, parts, most)
    cases false r e = simple_within l (t ∷ ts)

-- The first n tokens are a phrase exactly where n is one of the lengths.
pub in_a_row : (l : Layout) (ts : List Token) (n : ℕ) → n ≤ length ts → is_phrase l (take n ts) ≡ is_length (phrase_lengths l ts) n
in_a_row l ts zero h = none_phrase l ∙ sym (ap (λ b. b && nat_le 0 (phrase_lengths l ts).most) (lt-leb (phrase_lengths l ts).least 0 (some_length l ts)))
in_a_row l [] (suc m) h = absurd (omega arith)
in_a_row l (t ∷ ts) (suc m) h = cases (is_open t.kind) refl
  where
    cases : (b : Bool) → is_open t.kind ≡ b → is_phrase l (t ∷ take m ts) ≡ is_length (phrase_lengths l (t ∷ ts)) (suc m)
    cases true o = open_phrase l t (take m ts) o ∙ list_row l t ts m (omega arith) o ∙ sym (ap (λ i. is_length i (suc m)) (open_lengths l t ts o))
    cases false o = closed_phrase l t (take m ts) o ∙ simple_in_a_row l (t ∷ ts) (suc m) h ∙ sym (ap (λ i. is_length i (suc m)) (closed_lengths l t ts o))
