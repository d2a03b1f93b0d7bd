-- The tokens of a marked sentence.
use Rattle.std.proofs.Common.{◌≡◌, ℕ, ◌+◌, ◌-◌, ◌<◌, ◌≤◌, Bool, true, false, ◌&&◌, nat_lt, cond, Option, Some, None, List, [], ◌∷◌, ◌++◌, length, map, take, drop, slice_range, sym, refl, ap, ◌∙◌, arith, append_assoc}
use Rattle.std.proofs.lemmas.List.{append-nil, length-map, take_all}
use Rattle.le_layout.specs.declared.token.Token.{Token}
use Rattle.le_layout.specs.declared.layout.Layout.{Layout}
use Rattle.le_layout.specs.Words.{token_of, is_star, is_this_word, has_word}
use Rattle.le_layout.proofs.SpanLemmas.{slice_none}
use Rattle.le_templates.specs.declared.part.Part.{Part}
use Rattle.le_templates.specs.declared.part.Part.TheVariants.{Word, Slot}
use Rattle.le_scope.specs.Phrases.{is_phrase}
use Rattle.le_match.specs.declared.marked.Taken.{Taken}
use Rattle.le_match.specs.declared.marked.Taken.TheVariants as taken
use Rattle.le_match.specs.Readings.{until_star, marked_length, marked_cuts}
use Rattle.le_match.specs.Walks.{slot_taken, taken_by, marked_behind}
use Rattle.le_match.proofs.CutLemmas.{next, rest_of}

pub star_step : (l : Layout) (at to : ℕ) (b : Bool) → at < to → to ≤ length l.tokens → b ≡ is_star (token_of l at).kind → until_star (slice_range l.tokens at to) ≡ cond b 0 (until_star (slice_range l.tokens (at + 1) to) + 1)
star_step l at to b low high e = ap until_star (next l at to low high) ∙ ap (λ v. cond v 0 (until_star (slice_range l.tokens (at + 1) to) + 1)) (sym e)

pub star_end : (l : Layout) (at to : ℕ) → to ≤ at → until_star (slice_range l.tokens at to) ≡ 0
star_end l at to h = ap until_star (slice_none l.tokens at to h)

pub length_ended : (l : Layout) (at to : ℕ) → to ≤ at → marked_length l (slice_range l.tokens at to) ≡ None
length_ended l at to h = ap (marked_length l) (slice_none l.tokens at to h)

-- by whether an asterisk stands at the front, another one after it, and a phrase between them
pub length_is : (l : Layout) (from to n : ℕ) (a b p : Bool) → from < to → to ≤ length l.tokens → n ≡ until_star (slice_range l.tokens (from + 1) to) → a ≡ is_star (token_of l from).kind → b ≡ nat_lt n (length (slice_range l.tokens (from + 1) to)) → p ≡ is_phrase l (take n (slice_range l.tokens (from + 1) to)) → marked_length l (slice_range l.tokens from to) ≡ cond (a && (b && p)) (Some n) None
length_is l from to n a b p low high same ea eb ep =
    let rest = slice_range l.tokens (from + 1) to in
    ap (marked_length l) (next l from to low high)
    ∙ ap (λ k. cond (is_star (token_of l from).kind && (nat_lt k (length rest) && is_phrase l (take k rest))) (Some k) None) (sym same)
    ∙ ap (λ v. cond (v && (nat_lt n (length rest) && is_phrase l (take n rest))) (Some n) None) (sym ea)
    ∙ ap (λ v. cond (a && (v && is_phrase l (take n rest))) (Some n) None) (sym eb)
    ∙ ap (λ v. cond (a && (b && v)) (Some n) None) (sym ep)

pub no_star : (l : Layout) (from to : ℕ) → from < to → to ≤ length l.tokens → is_star (token_of l from).kind ≡ false → marked_length l (slice_range l.tokens from to) ≡ None
no_star l from to low high e =
    let rest = slice_range l.tokens (from + 1) to in
    let n = until_star rest in
    length_is l from to n false (nat_lt n (length rest)) (is_phrase l (take n rest)) low high refl (sym e) refl refl

-- ---- what a part takes

pub word_taken_is : (l : Layout) (w : List ℕ) (at to : ℕ) (b : Bool) → at < to → to ≤ length l.tokens → b ≡ has_word l at w → taken_by l (Word w) (slice_range l.tokens at to) ≡ cond b taken.Word taken.Nothing
unfolding has_word
word_taken_is l w at to b low high e = ap (taken_by l (Word w)) (next l at to low high) ∙ ap (λ v. cond v taken.Word taken.Nothing) (sym e)

pub word_ended : (l : Layout) (w : List ℕ) (at to : ℕ) → to ≤ at → taken_by l (Word w) (slice_range l.tokens at to) ≡ taken.Nothing
word_ended l w at to h = ap (taken_by l (Word w)) (slice_none l.tokens at to h)

-- ---- the walk over the parts

pub marked_step : (l : Layout) (p : Part) (ps : List Part) (ts : List Token) → marked_cuts l (p ∷ ps) ts ≡ marked_behind l ps ts (taken_by l p ts)
marked_step l (Word w) ps [] = refl
marked_step l (Word w) ps (t ∷ ts) = cases (is_this_word l w t)
  where
    cases : (b : Bool) → cond b (marked_cuts l ps ts) [] ≡ marked_behind l ps (t ∷ ts) (cond b taken.Word taken.Nothing)
    cases true = refl
    cases false = refl
marked_step l (Slot s) ps ts = cases (marked_length l ts)
  where
    cases : (o : Option ℕ) → elim o [ Some n ↦ map (λ ns. n ∷ ns) (marked_cuts l ps (drop (n + 2) ts)) | None ↦ [] ] ≡ marked_behind l ps ts (slot_taken o)
    cases (Some n) = refl
    cases None = refl

-- lengths before each of some ways
abbrev pub onto : List ℕ → List (List ℕ) → List (List ℕ)
onto done ways = map (λ ns. done ++ ns) ways

pub onto_none : (done : List ℕ) (ways : List (List ℕ)) → done ≡ [] → onto done ways ≡ ways
onto_none done ways e = ap (λ d. onto d ways) e ∙ same ways
  where
    same : (ws : List (List ℕ)) → map (λ ns. [] ++ ns) ws ≡ ws
    same [] = refl
    same (w ∷ ws) = ap (λ s. w ∷ s) (same ws)

pub onto_more : (done more : List ℕ) (n : ℕ) (ways : List (List ℕ)) → more ≡ done ++ n ∷ [] → onto more ways ≡ onto done (map (λ ns. n ∷ ns) ways)
onto_more done more n ways e = ap (λ d. onto d ways) e ∙ each ways
  where
    each : (ws : List (List ℕ)) → onto (done ++ n ∷ []) ws ≡ onto done (map (λ ns. n ∷ ns) ws)
    each [] = refl
    each (w ∷ ws) = ap (λ x. x ∷ onto (done ++ n ∷ []) ws) (append_assoc done (n ∷ []) w) ∙ ap (λ s. (done ++ n ∷ w) ∷ s) (each ws)

-- where the parts begin with this one, which takes this
pub marked_walk : (l : Layout) (p : Part) (all ps : List Part) (ts : List Token) (t : Taken) → all ≡ p ∷ ps → t ≡ taken_by l p ts → marked_cuts l all ts ≡ marked_behind l ps ts t
marked_walk l p all ps ts t e f = ap (λ x. marked_cuts l x ts) e ∙ marked_step l p ps ts ∙ ap (marked_behind l ps ts) (sym f)

-- the walk after a word, and after a slot
pub behind_word_is : (l : Layout) (ps : List Part) (at to : ℕ) → at < to → marked_behind l ps (slice_range l.tokens at to) taken.Word ≡ marked_cuts l ps (slice_range l.tokens (at + 1) to)
behind_word_is l ps at to h =
    let one : 1 ≡ at + 1 - at = omega arith in
    ap (marked_cuts l ps) (ap (λ k. drop k (slice_range l.tokens at to)) one ∙ rest_of l.tokens at (at + 1) to (omega arith) (omega arith))

pub behind_slot_is : (l : Layout) (ps : List Part) (at to n : ℕ) → at + (n + 2) ≤ to → marked_behind l ps (slice_range l.tokens at to) (taken.Slot n) ≡ map (λ ns. n ∷ ns) (marked_cuts l ps (slice_range l.tokens (at + (n + 2)) to))
behind_slot_is l ps at to n h =
    let same : n + 2 ≡ at + (n + 2) - at = omega arith in
    ap (λ s. map (λ ns. n ∷ ns) (marked_cuts l ps s)) (ap (λ k. drop k (slice_range l.tokens at to)) same ∙ rest_of l.tokens at (at + (n + 2)) to (omega arith) h)

-- where no part is left
pub ended_all : (l : Layout) (all : List Part) (at to : ℕ) (done : List ℕ) → all ≡ [] → to ≤ at → onto done (marked_cuts l all (slice_range l.tokens at to)) ≡ done ∷ []
ended_all l all at to done e h =
    ap (λ x. onto done (marked_cuts l x (slice_range l.tokens at to))) e
    ∙ ap (λ s. onto done (marked_cuts l [] s)) (slice_none l.tokens at to h) ∙ ap (λ x. x ∷ []) (append-nil done)

pub ended_early : (l : Layout) (all : List Part) (at to : ℕ) (done : List ℕ) → all ≡ [] → at < to → to ≤ length l.tokens → onto done (marked_cuts l all (slice_range l.tokens at to)) ≡ []
ended_early l all at to done e low high =
    ap (λ x. onto done (marked_cuts l x (slice_range l.tokens at to))) e
    ∙ ap (λ s. onto done (marked_cuts l [] s)) (next l at to low high)

-- there is at most one way
pub at_most_one : (l : Layout) (ps : List Part) (ts : List Token) → length (marked_cuts l ps ts) ≤ 1
at_most_one l [] [] = omega arith
at_most_one l [] (t ∷ ts) = omega arith
at_most_one l (Word w ∷ ps) [] = omega arith
at_most_one l (Word w ∷ ps) (t ∷ ts) = cases (is_this_word l w t) (at_most_one l ps ts)
  where
    cases : (b : Bool) → length (marked_cuts l ps ts) ≤ 1 → length (cond b (marked_cuts l ps ts) []) ≤ 1
    cases true h = h
    cases false h = omega arith
at_most_one l (Slot s ∷ ps) ts = cases (λ n. at_most_one l ps (drop (n + 2) ts)) (marked_length l ts)
  where
    cases : ((n : ℕ) → length (marked_cuts l ps (drop (n + 2) ts)) ≤ 1) → (o : Option ℕ) → length (elim o as (λ _. List (List ℕ)) [ Some n ↦ map (λ ns. n ∷ ns) (marked_cuts l ps (drop (n + 2) ts)) | None ↦ [] ]) ≤ 1
    cases h (Some n) = let g = h n in let e = length-map (marked_cuts l ps (drop (n + 2) ts)) (λ ns. n ∷ ns) in omega arith
    cases h None = omega arith

pub two_marked : (l : Layout) (ps : List Part) (ts : List Token) → marked_cuts l ps ts ≡ take 2 (marked_cuts l ps ts)
two_marked l ps ts = let h = at_most_one l ps ts in sym (take_all 2 (marked_cuts l ps ts) (omega arith))
