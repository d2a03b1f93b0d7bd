-- The ways of a marked sentence are exactly the lists of lengths by which its marked parts are the slots.
use Rattle.std.proofs.Common.{◌≡◌, ℕ, ◌==◌, zero, suc, ◌+◌, ◌<◌, nat_lt, Bool, true, false, cond, not, ◌&&◌, Some, None, List, [], ◌∷◌, length, map, take, drop, get_or, sym, refl, ap, ◌∙◌, subst, arith}
use Rattle.std.specs.Char.{to_ascii_lowercase}
use Rattle.std.specs.Str.{bytes_eq}
use Rattle.le_templates.specs.Skeletons.{skeleton}
use Rattle.std.specs.List.{All, AllByRecursion, Contains}
use Rattle.std.proofs.lemmas.Bool.{and_parts, ltb-true, lt-ltb, eqb-true}
use Rattle.std.proofs.lemmas.List.Elements.{All-from_recursion}
use Rattle.le_layout.specs.declared.token.Kind.{Kind}
use Rattle.le_layout.specs.declared.token.Kind.TheVariants as kinds
use Rattle.le_layout.specs.declared.token.Token.{Token}
use Rattle.le_layout.specs.declared.layout.Layout.{Layout}
use Rattle.le_layout.specs.Layout.{no_token}
use Rattle.le_layout.specs.Words.{text_of, same_word, is_word, is_this_word, is_star}
use Rattle.le_templates.specs.declared.part.Part.{Part}
use Rattle.le_templates.specs.declared.part.Part.TheVariants.{Word, Slot}
use Rattle.le_scope.specs.Phrases.{is_phrase}
use Rattle.le_match.specs.Readings.{cuts, until_star, marked_cuts, is_marked, ways}
use Rattle.le_match.specs.Shares.{FitsMarked}
use Rattle.le_match.proofs.StarLemmas.{is_starless, phrase_starless}
use Rattle.le_match.proofs.WholeLemmas.{here, in_map}

-- ---- the next asterisk

star_at : (ts : List Token) → until_star ts < length ts → is_star (get_or ts (until_star ts) no_token).kind ≡ true
star_at [] h = absurd (omega arith)
star_at (t ∷ ts) h = cases (star_at ts) (is_star t.kind) refl h
  where
    cases : (until_star ts < length ts → is_star (get_or ts (until_star ts) no_token).kind ≡ true) → (b : Bool) → is_star t.kind ≡ b → cond b 0 (until_star ts + 1) < length (t ∷ ts) → is_star (get_or (t ∷ ts) (cond b 0 (until_star ts + 1)) no_token).kind ≡ true
    cases there true e g = e
    cases there false e g =
        let next : until_star ts + 1 ≡ suc (until_star ts) = omega arith in
        ap (λ n. is_star (get_or (t ∷ ts) n no_token).kind) next ∙ there (omega (arith, g))

star_first : (ts : List Token) (k : ℕ) → is_starless (take k ts) ≡ true → is_star (get_or ts k no_token).kind ≡ true → k < length ts → until_star ts ≡ k
star_first [] k starless star h = absurd (omega arith)
star_first (t ∷ ts) zero starless star h = ap (λ b. cond b 0 (until_star ts + 1)) star
star_first (t ∷ ts) (suc k) starless star h =
    let p = and_parts (not (is_star t.kind)) (is_starless (take k ts)) starless in
    let r = star_first ts k p.1 star (omega (arith, h)) in
    ap (λ b. cond b 0 (until_star ts + 1)) (is_no (is_star t.kind) p.0) ∙ (let g : until_star ts + 1 ≡ suc k = omega (arith, r) in g)
  where
    is_no : (b : Bool) → not b ≡ true → b ≡ false
    is_no true e = absurd (cc)
    is_no false e = refl

phrase_star : (l : Layout) (ts : List Token) (k : ℕ) → is_phrase l (take k ts) ≡ true → is_star (get_or ts k no_token).kind ≡ true → k < length ts → until_star ts ≡ k
phrase_star l ts k h star low = star_first ts k (phrase_starless l (take k ts) h) star low

-- ---- each way fits

after : (n : ℕ) (t : Token) (ts : List Token) → drop (n + 2) (t ∷ ts) ≡ drop (n + 1) ts
after n t ts = let e : n + 2 ≡ suc (n + 1) = omega arith in ap (λ k. drop k (t ∷ ts)) e

onto_fit : (l : Layout) (s : List ℕ) (ps : List Part) (t : Token) (ts : List Token) (n : ℕ) (ws : List (List ℕ)) → is_star t.kind ≡ true → n < length ts → is_phrase l (take n ts) ≡ true → is_star (get_or ts n no_token).kind ≡ true → AllByRecursion (λ ks. FitsMarked l ps (drop (n + 1) ts) ks) ws → AllByRecursion (λ ks. FitsMarked l (Slot s ∷ ps) (t ∷ ts) ks) (map (λ ks. n ∷ ks) ws)
onto_fit l s ps t ts n [] a b c d h = tt
onto_fit l s ps t ts n (w ∷ ws) a b c d h = ((a, b, c, d, h.0), onto_fit l s ps t ts n ws a b c d h.1)

onto_word : (l : Layout) (v : List ℕ) (ps : List Part) (t : Token) (ts : List Token) (ws : List (List ℕ)) → is_this_word l v t ≡ true → AllByRecursion (λ ks. FitsMarked l ps ts ks) ws → AllByRecursion (λ ks. FitsMarked l (Word v ∷ ps) (t ∷ ts) ks) ws
onto_word l v ps t ts [] e h = tt
onto_word l v ps t ts (w ∷ ws) e h = ((e, h.0), onto_word l v ps t ts ws e h.1)

all_marked : (l : Layout) (ps : List Part) (ts : List Token) → AllByRecursion (λ ks. FitsMarked l ps ts ks) (marked_cuts l ps ts)
all_marked l [] [] = (tt, tt)
all_marked l [] (t ∷ ts) = tt
all_marked l (Word w ∷ ps) [] = tt
all_marked l (Word w ∷ ps) (t ∷ ts) = cases (is_this_word l w t) refl (all_marked l ps ts)
  where
    cases : (b : Bool) → is_this_word l w t ≡ b → AllByRecursion (λ ks. FitsMarked l ps ts ks) (marked_cuts l ps ts) → AllByRecursion (λ ks. FitsMarked l (Word w ∷ ps) (t ∷ ts) ks) (cond b (marked_cuts l ps ts) [])
    cases true e h = onto_word l w ps t ts (marked_cuts l ps ts) e h
    cases false e h = tt
all_marked l (Slot s ∷ ps) [] = tt
all_marked l (Slot s ∷ ps) (t ∷ ts) =
    cases (is_star t.kind && (nat_lt (until_star ts) (length ts) && is_phrase l (take (until_star ts) ts))) refl (all_marked l ps (drop (until_star ts + 2) (t ∷ ts)))
  where
    n : ℕ
    n = until_star ts

    cases : (b : Bool) → (is_star t.kind && (nat_lt n (length ts) && is_phrase l (take n ts))) ≡ b → AllByRecursion (λ ks. FitsMarked l ps (drop (n + 2) (t ∷ ts)) ks) (marked_cuts l ps (drop (n + 2) (t ∷ ts))) → AllByRecursion (λ ks. FitsMarked l (Slot s ∷ ps) (t ∷ ts) ks) (elim (cond b (Some n) None) as (λ _. List (List ℕ)) [ Some m ↦ map (λ ns. m ∷ ns) (marked_cuts l ps (drop (m + 2) (t ∷ ts))) | None ↦ [] ])
    cases false e h = tt
    cases true e h =
        let p = and_parts (is_star t.kind) (nat_lt n (length ts) && is_phrase l (take n ts)) e in
        let q = and_parts (nat_lt n (length ts)) (is_phrase l (take n ts)) p.1 in
        let low : n < length ts = ltb-true n (length ts) q.0 in
        let P : List Token → Type 0 = λ us. AllByRecursion (λ ks. FitsMarked l ps us ks) (marked_cuts l ps (drop (n + 2) (t ∷ ts))) in
        onto_fit l s ps t ts n (marked_cuts l ps (drop (n + 2) (t ∷ ts))) p.0 low q.1 (star_at ts low) (subst P (after n t ts) h)

-- ---- each that fits is there

pub marked_whole : (l : Layout) (ps : List Part) (ts : List Token) (ks : List ℕ) → FitsMarked l ps ts ks → Contains (marked_cuts l ps ts) ks
marked_whole l [] [] [] h = here [] [] [] refl
marked_whole l [] [] (k ∷ ks) h = absurd h
marked_whole l [] (t ∷ ts) ks h = absurd h
marked_whole l (Word w ∷ ps) [] ks h = absurd h
marked_whole l (Word w ∷ ps) (t ∷ ts) ks h =
    let P : Bool → Type 0 = λ b. Contains (cond b (marked_cuts l ps ts) []) ks in
    subst P (sym h.0) (marked_whole l ps ts ks h.1)
marked_whole l (Slot s ∷ ps) [] ks h = absurd h
marked_whole l (Slot s ∷ ps) (t ∷ ts) [] h = absurd h
marked_whole l (Slot s ∷ ps) (t ∷ ts) (k ∷ ks) h =
    let next : until_star ts ≡ k = phrase_star l ts k h.2 h.3 h.1 in
    let test : (is_star t.kind && (nat_lt k (length ts) && is_phrase l (take k ts))) ≡ true =
    ap (λ b. b && (nat_lt k (length ts) && is_phrase l (take k ts))) h.0 ∙ ap (λ b. b && is_phrase l (take k ts)) (lt-ltb k (length ts) h.1) ∙ h.2 in
    let there : Contains (marked_cuts l ps (drop (k + 2) (t ∷ ts))) ks = let P : List Token → Type 0 = λ us. Contains (marked_cuts l ps us) ks in subst P (sym (after k t ts)) (marked_whole l ps (drop (k + 1) ts) ks h.4) in
    let G : Bool → ℕ → List (List ℕ) = λ b n. elim (cond b (Some n) None) as (λ _. List (List ℕ)) [ Some m ↦ map (λ ns. m ∷ ns) (marked_cuts l ps (drop (m + 2) (t ∷ ts))) | None ↦ [] ] in
    let F : ℕ → List (List ℕ) = λ n. G (is_star t.kind && (nat_lt n (length ts) && is_phrase l (take n ts))) n in
    let Q : List (List ℕ) → Type 0 = λ ws. Contains ws (k ∷ ks) in
    subst Q (sym (ap F next ∙ ap (λ b. G b k) test)) (in_map (λ ns. k ∷ ns) (marked_cuts l ps (drop (k + 2) (t ∷ ts))) ks there)

-- ---- for the ways of a sentence

pub ways_fit_marks : (l : Layout) (ps : List Part) (ts : List Token) → is_marked ts ≡ true → All (λ ks. FitsMarked l ps ts ks) (ways l ps ts)
ways_fit_marks l ps ts e =
    let P : Bool → Type 0 = λ b. All (λ ks. FitsMarked l ps ts ks) (cond b (marked_cuts l ps ts) (cuts l ps ts)) in
    subst P (sym e) (All-from_recursion (λ ks. FitsMarked l ps ts ks) (marked_cuts l ps ts) (all_marked l ps ts))

pub ways_whole_marks : (l : Layout) (ps : List Part) (ts : List Token) (ks : List ℕ) → is_marked ts ≡ true → FitsMarked l ps ts ks → Contains (ways l ps ts) ks
ways_whole_marks l ps ts ks e h =
    let P : Bool → Type 0 = λ b. Contains (cond b (marked_cuts l ps ts) (cuts l ps ts)) ks in
    subst P (sym e) (marked_whole l ps ts ks h)

-- ---- what reads a marked sentence has one skeleton

bytes_same : (xs ys : List ℕ) → bytes_eq xs ys ≡ true → xs ≡ ys
bytes_same [] [] h = refl
bytes_same [] (y ∷ ys) h = absurd (cc)
bytes_same (x ∷ xs) [] h = absurd (cc)
bytes_same (x ∷ xs) (y ∷ ys) h =
    let p = and_parts (x == y) (bytes_eq xs ys) h in
    ap (λ a. a ∷ xs) (eqb-true x y p.0) ∙ ap (λ t. y ∷ t) (bytes_same xs ys p.1)

word_star : (k : Kind) → is_word k ≡ true → is_star k ≡ true → ⊥
word_star kinds.Word w s = absurd (cc)
word_star kinds.Quote w s = absurd (cc)
word_star kinds.Open w s = absurd (cc)
word_star kinds.Close w s = absurd (cc)
word_star kinds.Bar w s = absurd (cc)
word_star kinds.Comma w s = absurd (cc)
word_star kinds.Colon w s = absurd (cc)
word_star kinds.Star w s = absurd (cc)
word_star kinds.Stop w s = absurd (cc)

word_then_star : {X : Type 0} (l : Layout) (w : List ℕ) (t : Token) → is_this_word l w t ≡ true → is_star t.kind ≡ true → X
word_then_star l w t h s = absurd (word_star t.kind ((and_parts (is_word t.kind) (same_word (text_of l t) w) h).0) s)

lower_is : (l : Layout) (w : List ℕ) (t : Token) → is_this_word l w t ≡ true → map to_ascii_lowercase (text_of l t) ≡ map to_ascii_lowercase w
lower_is l w t h = bytes_same (map to_ascii_lowercase (text_of l t)) (map to_ascii_lowercase w) ((and_parts (is_word t.kind) (same_word (text_of l t) w) h).1)

pub one_skeleton : (l : Layout) (ps qs : List Part) (ts : List Token) (ks js : List ℕ) → FitsMarked l ps ts ks → FitsMarked l qs ts js → (skeleton ps ≡ skeleton qs) × (ks ≡ js)
one_skeleton l [] [] [] [] [] h g = (refl, refl)
one_skeleton l [] [] [] [] (j ∷ js) h g = absurd g
one_skeleton l [] [] [] (k ∷ ks) js h g = absurd h
one_skeleton l [] qs (t ∷ ts) ks js h g = absurd h
one_skeleton l [] (Word v ∷ qs) [] ks js h g = absurd g
one_skeleton l [] (Slot r ∷ qs) [] ks js h g = absurd g
one_skeleton l (Word w ∷ ps) qs [] ks js h g = absurd h
one_skeleton l (Word w ∷ ps) [] (t ∷ ts) ks js h g = absurd g
one_skeleton l (Word w ∷ ps) (Word v ∷ qs) (t ∷ ts) ks js h g =
    let r = one_skeleton l ps qs ts ks js h.1 g.1 in
    let same : map to_ascii_lowercase w ≡ map to_ascii_lowercase v = sym (lower_is l w t h.0) ∙ lower_is l v t g.0 in
    (ap (λ x. Some x ∷ skeleton ps) same ∙ ap (λ x. Some (map to_ascii_lowercase v) ∷ x) r.0, r.1)
one_skeleton l (Word w ∷ ps) (Slot r ∷ qs) (t ∷ ts) ks [] h g = absurd g
one_skeleton l (Word w ∷ ps) (Slot r ∷ qs) (t ∷ ts) ks (j ∷ js) h g = word_then_star l w t h.0 g.0
one_skeleton l (Slot s ∷ ps) qs [] ks js h g = absurd h
one_skeleton l (Slot s ∷ ps) qs (t ∷ ts) [] js h g = absurd h
one_skeleton l (Slot s ∷ ps) [] (t ∷ ts) (k ∷ ks) js h g = absurd g
one_skeleton l (Slot s ∷ ps) (Word v ∷ qs) (t ∷ ts) (k ∷ ks) js h g = word_then_star l v t g.0 h.0
one_skeleton l (Slot s ∷ ps) (Slot r ∷ qs) (t ∷ ts) (k ∷ ks) [] h g = absurd g
one_skeleton l (Slot s ∷ ps) (Slot r ∷ qs) (t ∷ ts) (k ∷ ks) (j ∷ js) h g =
    let same : k ≡ j = sym (phrase_star l ts k h.2 h.3 h.1) ∙ phrase_star l ts j g.2 g.3 g.1 in
    let P : ℕ → Type 0 = λ m. FitsMarked l qs (drop (m + 1) ts) js in
    let rest = one_skeleton l ps qs (drop (k + 1) ts) ks js h.4 (subst P (sym same) g.4) in
    (ap (λ x. None ∷ x) rest.0, ap (λ m. m ∷ ks) same ∙ ap (λ x. j ∷ x) rest.1)
