-- Each way to share tokens out fits them, and what follows from that on the way from left to right.
use Rattle.std.proofs.Common.{◌≡◌, ℕ, zero, suc, ◌+◌, ◌-◌, ◌<◌, ◌≤◌, Bool, true, false, ◌&&◌, ◌==◌, nat_lt, cond, Some, None, List, [], ◌∷◌, ◌++◌, length, map, flat_map, take, drop, get_or, slice_range, sym, refl, ap, ◌∙◌, subst, arith, append_assoc, inl, inr}
use Rattle.std.specs.List.{All}
use Rattle.std.proofs.lemmas.Bool.{ltb-true, cases_lt}
use Rattle.std.proofs.lemmas.List.{get_or-drop, drop-drop, drop_more, drop_all, map-append}
use Rattle.std.proofs.lemmas.List.Elements.{All-nil, All-cons, All-head, All-tail, All-append, All-filter, All-weaker, All-map, filter_passes}
use Rattle.le_layout.specs.declared.token.Token.{Token}
use Rattle.le_layout.specs.declared.layout.Layout.{Layout}
use Rattle.le_layout.specs.Words.{is_star, is_this_word, token_of}
use Rattle.le_layout.proofs.SpanLemmas.{slice_none}
use Rattle.le_templates.specs.declared.part.Part.{Part}
use Rattle.le_templates.specs.declared.part.Part.TheVariants.{Word, Slot}
use Rattle.le_templates.specs.declared.part.Template.{Template}
use Rattle.le_templates.specs.Table.{template, table_of, in_use}
use Rattle.le_scope.specs.Phrases.{is_phrase, phrase_form, simple_form, is_name}
use Rattle.le_match.specs.declared.readings.Reading.{Reading}
use Rattle.le_match.specs.Readings.{count_from, phrase_lengths, cuts, until_star, marked_cuts, is_marked, ways, readings_by, readings_from, readings_of, parts_at, words_of, most_words, best_readings, first_two, best_of}
use Rattle.le_match.specs.Shares.{edge, Fits, IsRead, IsReadBy, Share, word, phrase, shares}
use Rattle.le_match.specs.declared.sharing.Place.{Place}
use Rattle.le_match.specs.Walks.{share_of, place_size, total_size}
use Rattle.le_match.proofs.CutLemmas.{next, rest_of, span_length, front_of, length_bounds}
use Rattle.le_match.proofs.BestLemmas.{readings_at}

-- ---- each way fits

pub all_flat_map : {X Y : Type 0} (P : Y → Type 0) (f : X → List Y) (xs : List X) → All (λ x. All P (f x)) xs → All P (flat_map f xs)
all_flat_map P f [] h = All-nil P
all_flat_map P f (x ∷ xs) h = All-append P (f x) (flat_map f xs) (All-head (λ x. All P (f x)) x xs h) (all_flat_map P f xs (All-tail (λ x. All P (f x)) x xs h))

pub cuts_fit : (l : Layout) (ps : List Part) (ts : List Token) → All (λ ks. Fits l 0 ps ts ks) (cuts l ps ts)
cuts_fit l [] [] = All-cons (λ ks. Fits l 0 [] [] ks) [] [] tt (All-nil (λ ks. Fits l 0 [] [] ks))
cuts_fit l [] (t ∷ ts) = All-nil (λ ks. Fits l 0 [] (t ∷ ts) ks)
cuts_fit l (Word w ∷ ps) [] = All-nil (λ ks. Fits l 0 (Word w ∷ ps) [] ks)
cuts_fit l (Word w ∷ ps) (t ∷ ts) = cases (cuts_fit l ps ts) (is_this_word l w t) refl
  where
    cases : All (λ ks. Fits l 0 ps ts ks) (cuts l ps ts) → (b : Bool) → is_this_word l w t ≡ b → All (λ ks. Fits l 0 (Word w ∷ ps) (t ∷ ts) ks) (cond b (cuts l ps ts) [])
    cases h true e = All-weaker (λ ks. Fits l 0 ps ts ks) (λ ks. Fits l 0 (Word w ∷ ps) (t ∷ ts) ks) (λ ks g. (e, g)) (cuts l ps ts) h
    cases h false e = All-nil (λ ks. Fits l 0 (Word w ∷ ps) (t ∷ ts) ks)
cuts_fit l (Slot s ∷ ps) ts =
    let P : List ℕ → Type 0 = λ ks. Fits l 0 (Slot s ∷ ps) ts ks in
    let f : ℕ → List (List ℕ) = λ n. map (λ ks. n ∷ ks) (cuts l ps (drop n ts)) in
    let size = length_bounds l ts in
    let said = filter_passes (λ n. is_phrase l (take n ts)) (count_from 1 ts) in
    all_flat_map P f (phrase_lengths l ts) (λ k d h. each (cuts_fit l ps) (get_or (phrase_lengths l ts) k d) (size k d h) (said k d h))
  where
    each : ((us : List Token) → All (λ ks. Fits l 0 ps us ks) (cuts l ps us)) → (n : ℕ) → (0 < n) × (n ≤ length ts) → is_phrase l (take n ts) ≡ true → All (λ ks. Fits l 0 (Slot s ∷ ps) ts ks) (map (λ ks. n ∷ ks) (cuts l ps (drop n ts)))
    each there n h e =
        let P : List ℕ → Type 0 = λ ks. Fits l 0 (Slot s ∷ ps) ts ks in
        let low : 0 < n = h.0 in
        let high : n ≤ length ts = h.1 in
        let same : n ≡ n + (0 + 0) = omega arith in
        let behind : (ks : List ℕ) → Fits l 0 ps (drop n ts) ks → P (n ∷ ks) =
        λ ks g. (low, omega arith, e, (let Q : ℕ → Type 0 = λ k. Fits l 0 ps (drop k ts) ks in subst Q same g)) in
        All-map P (λ ks. n ∷ ks) (cuts l ps (drop n ts)) (All-weaker (λ ks. Fits l 0 ps (drop n ts) ks) (λ ks. P (n ∷ ks)) behind (cuts l ps (drop n ts)) (there (drop n ts)))

-- no phrase is empty
pub none_empty : (l : Layout) → is_phrase l [] ≡ false
unfolding phrase_form simple_form is_name
none_empty l = refl

pub marked_fit : (l : Layout) (ps : List Part) (ts : List Token) → All (λ ks. Fits l 1 ps ts ks) (marked_cuts l ps ts)
marked_fit l [] [] = All-cons (λ ks. Fits l 1 [] [] ks) [] [] tt (All-nil (λ ks. Fits l 1 [] [] ks))
marked_fit l [] (t ∷ ts) = All-nil (λ ks. Fits l 1 [] (t ∷ ts) ks)
marked_fit l (Word w ∷ ps) [] = All-nil (λ ks. Fits l 1 (Word w ∷ ps) [] ks)
marked_fit l (Word w ∷ ps) (t ∷ ts) = cases (marked_fit l ps ts) (is_this_word l w t) refl
  where
    cases : All (λ ks. Fits l 1 ps ts ks) (marked_cuts l ps ts) → (b : Bool) → is_this_word l w t ≡ b → All (λ ks. Fits l 1 (Word w ∷ ps) (t ∷ ts) ks) (cond b (marked_cuts l ps ts) [])
    cases h true e = All-weaker (λ ks. Fits l 1 ps ts ks) (λ ks. Fits l 1 (Word w ∷ ps) (t ∷ ts) ks) (λ ks g. (e, g)) (marked_cuts l ps ts) h
    cases h false e = All-nil (λ ks. Fits l 1 (Word w ∷ ps) (t ∷ ts) ks)
marked_fit l (Slot s ∷ ps) [] = All-nil (λ ks. Fits l 1 (Slot s ∷ ps) [] ks)
marked_fit l (Slot s ∷ ps) (t ∷ ts) = cases (λ n. marked_fit l ps (drop (n + 2) (t ∷ ts))) (is_star t.kind) (nat_lt (until_star ts) (length ts)) (is_phrase l (take (until_star ts) ts)) refl refl
  where
    some : (n : ℕ) → is_phrase l (take n ts) ≡ true → 0 < n
    some zero e = absurd (let none = none_empty l in cc)
    some (suc n) e = omega arith

    found : ((n : ℕ) → All (λ ks. Fits l 1 ps (drop (n + 2) (t ∷ ts)) ks) (marked_cuts l ps (drop (n + 2) (t ∷ ts)))) → (n : ℕ) → n < length ts → is_phrase l (take n ts) ≡ true → All (λ ks. Fits l 1 (Slot s ∷ ps) (t ∷ ts) ks) (map (λ ks. n ∷ ks) (marked_cuts l ps (drop (n + 2) (t ∷ ts))))
    found there n low e =
        let P : List ℕ → Type 0 = λ ks. Fits l 1 (Slot s ∷ ps) (t ∷ ts) ks in
        let ways = marked_cuts l ps (drop (n + 2) (t ∷ ts)) in
        let enough : 0 < n = some n e in
        let inside : n + (1 + 1) ≤ length (t ∷ ts) = omega arith in
        All-map P (λ ks. n ∷ ks) ways (All-weaker (λ ks. Fits l 1 ps (drop (n + 2) (t ∷ ts)) ks) (λ ks. P (n ∷ ks)) (λ ks g. (enough, inside, e, g)) ways (there n))

    cases : ((n : ℕ) → All (λ ks. Fits l 1 ps (drop (n + 2) (t ∷ ts)) ks) (marked_cuts l ps (drop (n + 2) (t ∷ ts)))) → (a b c : Bool) → nat_lt (until_star ts) (length ts) ≡ b → is_phrase l (take (until_star ts) ts) ≡ c → All (λ ks. Fits l 1 (Slot s ∷ ps) (t ∷ ts) ks) (elim (cond (a && (b && c)) (Some (until_star ts)) None) as (λ _. List (List ℕ)) [ Some n ↦ map (λ ks. n ∷ ks) (marked_cuts l ps (drop (n + 2) (t ∷ ts))) | None ↦ [] ])
    cases there true true true e f = found there (until_star ts) (ltb-true (until_star ts) (length ts) e) f
    cases there true true false e f = All-nil (λ ks. Fits l 1 (Slot s ∷ ps) (t ∷ ts) ks)
    cases there true false c e f = All-nil (λ ks. Fits l 1 (Slot s ∷ ps) (t ∷ ts) ks)
    cases there false b c e f = All-nil (λ ks. Fits l 1 (Slot s ∷ ps) (t ∷ ts) ks)

pub ways_fit : (l : Layout) (ps : List Part) (ts : List Token) → All (λ ks. Fits l (edge ts) ps ts ks) (ways l ps ts)
ways_fit l ps ts = cases (is_marked ts)
  where
    cases : (b : Bool) → All (λ ks. Fits l (cond b 1 0) ps ts ks) (cond b (marked_cuts l ps ts) (cuts l ps ts))
    cases true = marked_fit l ps ts
    cases false = cuts_fit l ps ts

-- ---- each reading reads

pub by_template : (us : List Template) (l : Layout) (ts : List Token) (p : ℕ) (t : Template) → t.parts ≡ parts_at us p → All (IsRead us l ts) (readings_at us l ts p t)
by_template us l ts p t e = cases (in_use us p)
  where
    cases : (b : Bool) → All (IsRead us l ts) (cond b (readings_by p (ways l t.parts ts)) [])
    cases true =
        All-map (IsRead us l ts) (λ ks. record { pred = p; lengths = ks }) (ways l t.parts ts)
        (let P : List Part → Type 0 = λ ps. All (λ ks. Fits l (edge ts) ps ts ks) (ways l t.parts ts) in subst P e (ways_fit l t.parts ts))
    cases false = All-nil (IsRead us l ts)

pub all_read : (us : List Template) (l : Layout) (ts : List Token) (p : ℕ) (xs : List Template) → drop p (table_of us) ≡ xs → All (IsRead us l ts) (readings_from us l ts p xs)
all_read us l ts p [] e = All-nil (IsRead us l ts)
all_read us l ts p (x ∷ xs) e =
    let at : p ≡ p + 0 = omega arith in
    let here : x ≡ get_or (table_of us) p (template []) =
    ap (λ ys. get_or ys 0 (template [])) (sym e) ∙ get_or-drop p (table_of us) 0 (template []) ∙ ap (λ k. get_or (table_of us) k (template [])) (sym at) in
    All-append (IsRead us l ts) (readings_at us l ts p x) (readings_from us l ts (p + 1) xs)
    (by_template us l ts p x (ap (λ t. t.parts) here))
    (all_read us l ts (p + 1) xs (sym (drop-drop 1 p (table_of us)) ∙ ap (drop 1) e))

pub two_read : (us : List Template) (l : Layout) (ts : List Token) (rs : List Reading) → All (IsRead us l ts) rs → IsReadBy us l ts (first_two rs)
two_read us l ts [] h = tt
two_read us l ts (r ∷ []) h = All-head (IsRead us l ts) r [] h
two_read us l ts (r ∷ s ∷ rs) h = (All-head (IsRead us l ts) r (s ∷ rs) h, All-head (IsRead us l ts) s rs (All-tail (IsRead us l ts) r (s ∷ rs) h))

pub best_read : (us : List Template) (l : Layout) (ts : List Token) → IsReadBy us l ts (best_of us l ts)
unfolding best_of readings_of
best_read us l ts =
    let rs = readings_of us l ts in
    two_read us l ts (best_readings us rs) (All-filter (λ r. words_of us r == most_words us rs) (IsRead us l ts) rs (all_read us l ts 0 (table_of us) refl))

-- ---- the walk

-- the next part is a word
pub fits_word : (l : Layout) (n : ℕ) (all ps : List Part) (w : List ℕ) (at to : ℕ) (ks : List ℕ) → all ≡ Word w ∷ ps → at ≤ to → to ≤ length l.tokens → Fits l n all (slice_range l.tokens at to) ks → (at < to) × Fits l n ps (slice_range l.tokens (at + 1) to) ks
fits_word l n all ps w at to ks e high inside h =
    let P : List Part → Type 0 = λ x. Fits l n x (slice_range l.tokens at to) ks in
    let g : Fits l n (Word w ∷ ps) (slice_range l.tokens at to) ks = subst P e h in
    elim (cases_lt at to) [
      | inl low ↦ (low, (let Q : List Token → Type 0 = λ s. Fits l n (Word w ∷ ps) s ks in let k = subst Q (next l at to low inside) g in k.1))
      | inr past ↦ absurd (let Q : List Token → Type 0 = λ s. Fits l n (Word w ∷ ps) s ks in subst Q (slice_none l.tokens at to past) g)
    ]

-- the next part is a slot
pub record SlotFits (l : Layout) (n : ℕ) (ps : List Part) (at to : ℕ) (ks : List ℕ) (j : ℕ) : Type 0 where
  pub there : j < length ks
  pub some : 0 < get_or ks j 0
  pub inside : at + (get_or ks j 0 + (n + n)) ≤ to
  pub rest : Fits l n ps (slice_range l.tokens (at + (get_or ks j 0 + (n + n))) to) (drop (j + 1) ks)

pub fits_slot : (l : Layout) (n : ℕ) (all ps : List Part) (s : List ℕ) (at to : ℕ) (ks : List ℕ) (j : ℕ) → all ≡ Slot s ∷ ps → at ≤ to → to ≤ length l.tokens → Fits l n all (slice_range l.tokens at to) (drop j ks) → SlotFits l n ps at to ks j
fits_slot l n all ps s at to ks j e high inside h =
    let P : List Part → Type 0 = λ x. Fits l n x (slice_range l.tokens at to) (drop j ks) in
    let Q : List ℕ → Type 0 = λ x. Fits l n (Slot s ∷ ps) (slice_range l.tokens at to) x in
    let g : Q (drop j ks) = subst P e h in
    let size : length (slice_range l.tokens at to) ≡ to - at = span_length l.tokens at to high inside in
    elim (cases_lt j (length ks)) [
      | inl low ↦
          let k = get_or ks j 0 in
          let f : Q (k ∷ drop (j + 1) ks) = subst Q (drop_more ks j 0 low) g in
          let some : 0 < k = f.0 in
          let fit : k + (n + n) ≤ length (slice_range l.tokens at to) = f.1 in
          let within : at + (k + (n + n)) ≤ to = omega arith in
          let place : k + (n + n) ≡ at + (k + (n + n)) - at = omega arith in
          let moved = ap (λ m. drop m (slice_range l.tokens at to)) place ∙ rest_of l.tokens at (at + (k + (n + n))) to (omega arith) within in
          let R : List Token → Type 0 = λ x. Fits l n ps x (drop (j + 1) ks) in
          record { there = low; some = some; inside = within; rest = subst R moved f.3 }
      | inr past ↦ absurd (subst Q (drop_all j ks past) g)
    ]

-- what a word and a slot take
pub shares_word : (l : Layout) (n : ℕ) (all ps : List Part) (w : List ℕ) (at to : ℕ) (ks : List ℕ) → all ≡ Word w ∷ ps → at < to → to ≤ length l.tokens → shares n all ks (slice_range l.tokens at to) ≡ word (token_of l at) ∷ shares n ps ks (slice_range l.tokens (at + 1) to)
shares_word l n all ps w at to ks e low high = ap (λ x. shares n x ks (slice_range l.tokens at to)) e ∙ ap (shares n (Word w ∷ ps) ks) (next l at to low high)

pub shares_slot : (l : Layout) (n : ℕ) (all ps : List Part) (s : List ℕ) (at to from end : ℕ) (ks : List ℕ) (j : ℕ) → all ≡ Slot s ∷ ps → j < length ks → from ≡ at + n → end ≡ at + n + get_or ks j 0 → at + (get_or ks j 0 + (n + n)) ≤ to → shares n all (drop j ks) (slice_range l.tokens at to) ≡ phrase (slice_range l.tokens from end) ∷ shares n ps (drop (j + 1) ks) (slice_range l.tokens (at + (get_or ks j 0 + (n + n))) to)
shares_slot l n all ps s at to from end ks j e low here there inside =
    let k = get_or ks j 0 in
    let ts = slice_range l.tokens at to in
    let one : n ≡ from - at = omega arith in
    let two : k ≡ end - from = omega arith in
    let three : k + (n + n) ≡ at + (k + (n + n)) - at = omega arith in
    ap (λ x. shares n x (drop j ks) ts) e
    ∙ ap (λ x. shares n (Slot s ∷ ps) x ts) (drop_more ks j 0 low)
    ∙ ap (λ x. phrase (take k x) ∷ shares n ps (drop (j + 1) ks) (drop (k + (n + n)) ts)) (ap (λ m. drop m ts) one ∙ rest_of l.tokens at from to (omega arith) (omega arith))
    ∙ ap (λ x. phrase x ∷ shares n ps (drop (j + 1) ks) (drop (k + (n + n)) ts)) (front_of l.tokens from end to k two (omega arith))
    ∙ ap (λ x. phrase (slice_range l.tokens from end) ∷ shares n ps (drop (j + 1) ks) x) (ap (λ m. drop m ts) three ∙ rest_of l.tokens at (at + (k + (n + n))) to (omega arith) inside)

pub shares_end : (n : ℕ) (all : List Part) (ks : List ℕ) (ts : List Token) → all ≡ [] → shares n all ks ts ≡ []
shares_end n all ks ts e = ap (λ x. shares n x ks ts) e

-- one more place
pub shared_more : (l : Layout) (found more : List Place) (x : Place) (tail all : List Share) → more ≡ found ++ x ∷ [] → all ≡ share_of l x ∷ tail → map (share_of l) more ++ tail ≡ map (share_of l) found ++ all
shared_more l found more x tail all e f =
    ap (λ s. map (share_of l) s ++ tail) e ∙ ap (λ s. s ++ tail) (map-append (share_of l) found (x ∷ []))
    ∙ append_assoc (map (share_of l) found) (share_of l x ∷ []) tail ∙ ap (λ s. map (share_of l) found ++ s) (sym f)

-- the tokens of one place more
pub total_size_push : (ps : List Place) (p : Place) → total_size (ps ++ p ∷ []) ≡ total_size ps + place_size p
total_size_push [] p = omega arith
total_size_push (q ∷ ps) p = let h = total_size_push ps p in omega (arith, h)
