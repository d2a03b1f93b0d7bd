-- Ways counted up to two from the last part to the first, and read off from the first to the last.
use Rattle.std.proofs.Common.{◌≡◌, ℕ, zero, suc, ◌+◌, ◌-◌, ◌<◌, ◌≤◌, min, max, Bool, true, false, cond, ◌&&◌, nat_le, List, [], ◌∷◌, ◌++◌, length, map, filter, flat_map, get_or, take, drop, slice_range, sym, refl, ap, ◌∙◌, ⊎_elim, subst, append_assoc, arith}
use Rattle.std.proofs.lemmas.Bool.{lt-leb, le-leb, cond-true, cond-false, cases_lt}
use Rattle.std.proofs.lemmas.List.{drop-drop, length-append, length-map, length-drop, get_or_append_left, get_or-append-add, get_or-map, get_or_default, get_or_push, get_or_read}
use Rattle.le_layout.specs.declared.token.Token.{Token}
use Rattle.le_layout.specs.declared.layout.Layout.{Layout}
use Rattle.le_templates.specs.declared.part.Part.{Part}
use Rattle.le_templates.specs.declared.part.Part.TheVariants.{Word, Slot}
use Rattle.le_scope.specs.declared.lengths.PhraseLengths.{PhraseLengths}
use Rattle.le_scope.specs.Phrases.{is_phrase}
use Rattle.le_scope.specs.Lengths.{is_length, lengths_from}
use Rattle.le_scope.specs.Lengths.{phrase_lengths as row_at}
use Rattle.le_scope.proofs.LengthsLaw.{in_a_row, some_length, lengths_within}
use Rattle.le_match.specs.Readings.{count_from, phrase_lengths, cuts}
use Rattle.le_layout.specs.Words.{is_this_word, has_word}
use Rattle.le_layout.proofs.SpanLemmas.{slice_none}
use Rattle.le_match.specs.declared.cuts.Chosen.{Chosen}
use Rattle.le_match.specs.Counts.{counts_of, IsTableOf, total, IsChosen, IsWayOn, is_slot, way_at}
use Rattle.le_match.proofs.CutLemmas.{next, rest_of, span_length, parts_more}

-- ---- lengths in a row

-- so many numbers from one on
abbrev pub upto : ℕ → ℕ → List ℕ
upto n zero = []
upto n (suc c) = n ∷ upto (n + 1) c

-- the numbers that are lengths among those counted from one on
pub row_from : {X : Type 0} (i : PhraseLengths) (n : ℕ) (xs : List X) → i.most < n + length xs → filter (is_length i) (count_from n xs) ≡ upto (max n i.least) (i.most + 1 - max n i.least)
row_from i n [] h =
    let none : i.most + 1 - max n i.least ≡ 0 = omega arith in
    sym (ap (upto (max n i.least)) none)
row_from i n (x ∷ xs) h = ⊎_elim
    (λ (few : n < i.least).
    let same : max (n + 1) i.least ≡ max n i.least = omega arith in
    cond-false (is_length i n) _ _ (ap (λ b. b && nat_le n i.most) (lt-leb i.least n few))
    ∙ row_from i (n + 1) xs (omega arith) ∙ ap (λ k. upto k (i.most + 1 - k)) same)
    (λ (enough : i.least ≤ n). ⊎_elim
    (λ (many : i.most < n).
    let none : i.most + 1 - max n i.least ≡ 0 = omega arith in
    let none_left : i.most + 1 - max (n + 1) i.least ≡ 0 = omega arith in
    cond-false (is_length i n) _ _ (ap (λ b. b && nat_le n i.most) (le-leb i.least n enough) ∙ lt-leb n i.most many)
    ∙ row_from i (n + 1) xs (omega arith) ∙ ap (upto (max (n + 1) i.least)) none_left ∙ sym (ap (upto (max n i.least)) none))
    (λ (few : n ≤ i.most).
    let here : max n i.least ≡ n = omega arith in
    let next : max (n + 1) i.least ≡ n + 1 = omega arith in
    let left : i.most + 1 - max n i.least ≡ suc (i.most - n) = omega arith in
    let after : i.most + 1 - (n + 1) ≡ i.most - n = omega arith in
    cond-true (is_length i n) _ _ (ap (λ b. b && nat_le n i.most) (le-leb i.least n enough) ∙ le-leb n i.most few)
    ∙ ap (λ s. n ∷ s) (row_from i (n + 1) xs (omega arith) ∙ ap (λ k. upto k (i.most + 1 - k)) next ∙ ap (upto (n + 1)) after)
    ∙ sym (ap (λ k. upto k (i.most + 1 - max n i.least)) here ∙ ap (upto n) left))
    (cases_lt i.most n))
    (cases_lt n i.least)

-- numbers that pass one test pass another that agrees with it up to as many
pub same_filter : {X : Type 0} (p q : ℕ → Bool) (n m : ℕ) (xs : List X) → n + length xs ≤ m + 1 → ((k : ℕ) → k ≤ m → p k ≡ q k) → filter p (count_from n xs) ≡ filter q (count_from n xs)
same_filter p q n m [] h same = refl
same_filter p q n m (x ∷ xs) h same =
    ap (λ b. cond b (n ∷ filter p (count_from (n + 1) xs)) (filter p (count_from (n + 1) xs))) (same n (omega arith))
    ∙ ap (λ s. cond (q n) (n ∷ s) s) (same_filter p q (n + 1) m xs (omega arith) same)

-- the lengths of the phrases at a token, one after another
pub lengths_row : (l : Layout) (ts : List Token) → phrase_lengths l ts ≡ upto (row_at l ts).least ((row_at l ts).most + 1 - (row_at l ts).least)
lengths_row l ts =
    let i = row_at l ts in
    let some = some_length l ts in
    let within = lengths_within l ts in
    let first : max 1 i.least ≡ i.least = omega arith in
    same_filter (λ n. is_phrase l (take n ts)) (is_length i) 1 (length ts) ts (omega arith) (λ n h. in_a_row l ts n h)
    ∙ row_from i 1 ts (omega arith) ∙ ap (λ k. upto k (i.most + 1 - k)) first

-- ---- counting

pub two_sum : (a b : ℕ) → min 2 (min 2 a + b) ≡ min 2 (a + b)
two_sum a b = omega arith

pub sum_two : (a b c : ℕ) → min 2 b ≡ min 2 c → min 2 (a + b) ≡ min 2 (a + c)
sum_two a b c h = omega (arith, h)

-- the ways that go on from each of some places are counted by the sum of the counts there
pub count_all : {X : Type 0} (g : ℕ → List X) (below : List ℕ) (k n c : ℕ) → ((m : ℕ) → n ≤ m → m < n + c → get_or below (k + m) 0 ≡ min 2 (length (g m))) → min 2 (total below (k + n) c) ≡ min 2 (length (flat_map g (upto n c)))
count_all g below k n zero h = refl
count_all g below k n (suc c) h =
    let next : k + n + 1 ≡ k + (n + 1) = omega arith in
    let rest = count_all g below k (n + 1) c (λ m low high. h m (omega arith) (omega arith)) in
    ap (λ x. min 2 (x + total below (k + n + 1) c)) (h n (omega arith) (omega arith))
    ∙ two_sum (length (g n)) (total below (k + n + 1) c)
    ∙ ap (λ j. min 2 (length (g n) + total below j c)) next
    ∙ sum_two (length (g n)) (total below (k + (n + 1)) c) (length (flat_map g (upto (n + 1) c))) rest
    ∙ ap (min 2) (sym (length-append (g n) (flat_map g (upto (n + 1) c))))

-- ---- reading off

-- where a rank falls on the ways that go on from one of some places, the way of that rank is there
pub read_all : {X : Type 0} (g : ℕ → List X) (below : List ℕ) (k n c at left rank : ℕ) (d : X) → ((m : ℕ) → n ≤ m → m < n + c → get_or below (k + m) 0 ≡ min 2 (length (g m))) → rank < 2 → n ≤ at → at < n + c → left < get_or below (k + at) 0 → rank ≡ total below (k + n) (at - n) + left → get_or (flat_map g (upto n c)) rank d ≡ get_or (g at) left d
read_all g below k n zero at left rank d h two low high in' e = absurd (omega arith)
read_all g below k n (suc c) at left rank d h two low high in' e = ⊎_elim
    (λ (first : at < n + 1).
    let here : at ≡ n = omega arith in
    let none : at - n ≡ 0 = omega arith in
    let zero_sum : total below (k + n) (at - n) ≡ 0 = ap (total below (k + n)) none in
    let same : rank ≡ left = omega (arith, e, zero_sum) in
    let there = h at low high in
    let short : left < length (g at) = omega (arith, there, in') in
    ap (λ r. get_or (g n ++ flat_map g (upto (n + 1) c)) r d) same
    ∙ ap (λ m. get_or (g m ++ flat_map g (upto (n + 1) c)) left d) (sym here)
    ∙ get_or_append_left (g at) (flat_map g (upto (n + 1) c)) d left short)
    (λ (later : n + 1 ≤ at).
    let one : at - n ≡ suc (at - (n + 1)) = omega arith in
    let next : k + n + 1 ≡ k + (n + 1) = omega arith in
    let there = h n (omega arith) (omega arith) in
    let T = total below (k + (n + 1)) (at - (n + 1)) in
    let split : rank ≡ get_or below (k + n) 0 + T + left =
    e ∙ ap (λ j. total below (k + n) j + left) one ∙ ap (λ j. get_or below (k + n) 0 + total below j (at - (n + 1)) + left) next in
    let all : rank ≡ length (g n) + (T + left) = omega (arith, there, split) in
    ap (λ r. get_or (g n ++ flat_map g (upto (n + 1) c)) r d) all
    ∙ get_or-append-add (g n) (flat_map g (upto (n + 1) c)) (T + left) d
    ∙ read_all g below k (n + 1) c at left (T + left) d (λ m lo hi. h m (omega arith) (omega arith)) (omega (arith, all)) later (omega arith) in' refl)
    (cases_lt at (n + 1))

pub total_more : (xs : List ℕ) (at to : ℕ) → at < to → total xs at (to - at) ≡ get_or xs at 0 + total xs (at + 1) (to - (at + 1))
total_more xs at to h = let e : to - at ≡ suc (to - (at + 1)) = omega arith in ap (total xs at) e

total_last : (xs : List ℕ) (at n : ℕ) → total xs at (suc n) ≡ total xs at n + get_or xs (at + n) 0
total_last xs at zero = let e : at + 0 ≡ at = omega arith in let f = ap (λ k. get_or xs k 0) e in omega arith
total_last xs at (suc n) = let e : at + 1 + n ≡ at + suc n = omega arith in let f = ap (λ k. get_or xs k 0) e in let h = total_last xs (at + 1) n in omega arith

pub total_next : (xs : List ℕ) (from at : ℕ) → from ≤ at → total xs from (at + 1 - from) ≡ total xs from (at - from) + get_or xs at 0
total_next xs from at h =
    let e : at + 1 - from ≡ suc (at - from) = omega arith in
    let f : from + (at - from) ≡ at = omega arith in
    ap (total xs from) e ∙ total_last xs from (at - from) ∙ ap (λ k. total xs from (at - from) + get_or xs k 0) f

-- ---- counts of a row

pub counts_length : (l : Layout) (parts : List Part) (ts : List Token) → length (counts_of l parts ts) ≡ length ts + 1
counts_length l parts [] = refl
counts_length l parts (t ∷ ts) = let h = counts_length l parts ts in omega arith

pub counts_get : (l : Layout) (parts : List Part) (ts : List Token) (k : ℕ) → k ≤ length ts → get_or (counts_of l parts ts) k 0 ≡ min 2 (length (cuts l parts (drop k ts)))
counts_get l parts [] zero h = refl
counts_get l parts [] (suc k) h = absurd (omega arith)
counts_get l parts (t ∷ ts) zero h = refl
counts_get l parts (t ∷ ts) (suc k) h = counts_get l parts ts k (omega arith)

-- ---- what a slot takes

-- the ways that begin with a slot of this length
abbrev pub ways_after : Layout → List Part → List Token → ℕ → List (List ℕ)
ways_after l parts ts n = map (λ ns. n ∷ ns) (cuts l parts (drop n ts))

pub slot_ways : (l : Layout) (s : List ℕ) (parts : List Part) (ts : List Token) → cuts l (Slot s ∷ parts) ts ≡ flat_map (ways_after l parts ts) (upto (row_at l ts).least ((row_at l ts).most + 1 - (row_at l ts).least))
slot_ways l s parts ts = ap (flat_map (ways_after l parts ts)) (lengths_row l ts)

-- the count below at the end of a slot
pub after_count : (l : Layout) (parts : List Part) (ts : List Token) (k m : ℕ) → k ≤ length ts → m ≤ length (drop k ts) → get_or (counts_of l parts ts) (k + m) 0 ≡ min 2 (length (ways_after l parts (drop k ts) m))
after_count l parts ts k m low high =
    let left : length (drop k ts) ≡ length ts - k = length-drop k ts in
    counts_get l parts ts (k + m) (omega arith)
    ∙ ap (λ s. min 2 (length (cuts l parts s))) (sym (drop-drop m k ts))
    ∙ sym (ap (min 2) (length-map (cuts l parts (drop m (drop k ts))) (λ ns. m ∷ ns)))

pub slot_count_is : (l : Layout) (s : List ℕ) (parts : List Part) (ts : List Token) (k : ℕ) → k ≤ length ts → min 2 (total (counts_of l parts ts) (k + (row_at l (drop k ts)).least) ((row_at l (drop k ts)).most + 1 - (row_at l (drop k ts)).least)) ≡ min 2 (length (cuts l (Slot s ∷ parts) (drop k ts)))
slot_count_is l s parts ts k low =
    let us = drop k ts in
    let i = row_at l us in
    let within = lengths_within l us in
    count_all (ways_after l parts us) (counts_of l parts ts) k i.least (i.most + 1 - i.least) (λ m lo hi. after_count l parts ts k m low (omega arith))
    ∙ ap (λ w. min 2 (length w)) (sym (slot_ways l s parts us))

pub slot_way_is : (l : Layout) (s : List ℕ) (parts : List Part) (ts : List Token) (k at left rank : ℕ) → k ≤ length ts → rank < 2 → k + (row_at l (drop k ts)).least ≤ at → at < k + (row_at l (drop k ts)).most + 1 → left < get_or (counts_of l parts ts) at 0 → rank ≡ total (counts_of l parts ts) (k + (row_at l (drop k ts)).least) (at - (k + (row_at l (drop k ts)).least)) + left → way_at l (Slot s ∷ parts) (drop k ts) rank ≡ (at - k) ∷ way_at l parts (drop at ts) left
slot_way_is l s parts ts k at left rank low two lo hi in' e =
    let us = drop k ts in
    let i = row_at l us in
    let within = lengths_within l us in
    let size : length us ≡ length ts - k = length-drop k ts in
    let n = at - k in
    let back : k + n ≡ at = omega arith in
    let same : at - (k + i.least) ≡ n - i.least = omega arith in
    let enough : left < length (cuts l parts (drop at ts)) = let c = counts_get l parts ts at (omega arith) in omega (arith, c, in') in
    let rest : drop n us ≡ drop at ts = drop-drop n k ts ∙ ap (λ j. drop j ts) back in
    let short : left < length (cuts l parts (drop n us)) = omega (arith, enough, ap (λ s. length (cuts l parts s)) rest) in
    ap (λ w. get_or w rank []) (slot_ways l s parts us)
    ∙ read_all (ways_after l parts us) (counts_of l parts ts) k i.least (i.most + 1 - i.least) n left rank []
    (λ m lo hi. after_count l parts ts k m low (omega arith)) two (omega arith) (omega arith)
    (omega (arith, in', ap (λ j. get_or (counts_of l parts ts) j 0) back))
    (e ∙ ap (λ j. total (counts_of l parts ts) (k + i.least) j + left) same)
    ∙ get_or-map (λ ns. n ∷ ns) (cuts l parts (drop n us)) left [] [] short
    ∙ ap (λ s. n ∷ way_at l parts s left) rest

-- ---- the walks

pub row_width : (l : Layout) (parts : List Part) (from to : ℕ) (below : List ℕ) → from ≤ to → to ≤ length l.tokens → below ≡ counts_of l parts (slice_range l.tokens from to) → length below ≡ to - from + 1
row_width l parts from to below low high e =
    ap length e ∙ counts_length l parts (slice_range l.tokens from to) ∙ ap (λ n. n + 1) (span_length l.tokens from to low high)

lengths_length : (l : Layout) (ts : List Token) → length (lengths_from l ts) ≡ length ts
lengths_length l [] = refl
lengths_length l (t ∷ ts) = ap (λ n. suc n) (lengths_length l ts)

lengths_get : (l : Layout) (ts : List Token) (k : ℕ) (d : PhraseLengths) → k < length ts → get_or (lengths_from l ts) k d ≡ row_at l (drop k ts)
lengths_get l [] k d h = absurd (omega arith)
lengths_get l (t ∷ ts) zero d h = refl
lengths_get l (t ∷ ts) (suc k) d h = lengths_get l ts k d (omega arith)

pub phrases_width : (l : Layout) (from to : ℕ) (phrases : List PhraseLengths) → from ≤ to → to ≤ length l.tokens → phrases ≡ lengths_from l (slice_range l.tokens from to) → length phrases ≡ to - from
phrases_width l from to phrases low high e = ap length e ∙ lengths_length l (slice_range l.tokens from to) ∙ span_length l.tokens from to low high

pub phrases_at : (l : Layout) (from to k : ℕ) (phrases : List PhraseLengths) (d : PhraseLengths) → from ≤ to → to ≤ length l.tokens → k < to - from → phrases ≡ lengths_from l (slice_range l.tokens from to) → get_or phrases k d ≡ row_at l (drop k (slice_range l.tokens from to))
phrases_at l from to k phrases d low high inside e =
    let width = span_length l.tokens from to low high in
    ap (λ s. get_or s k d) e ∙ lengths_get l (slice_range l.tokens from to) k d (omega arith)

-- a row's count at a place, of the tokens that begin there
pub row_at_place : (l : Layout) (parts : List Part) (from at to : ℕ) (below : List ℕ) (d : ℕ) → from ≤ at → at ≤ to → to ≤ length l.tokens → below ≡ counts_of l parts (slice_range l.tokens from to) → get_or below (at - from) d ≡ min 2 (length (cuts l parts (slice_range l.tokens at to)))
row_at_place l parts from at to below d low high inside e =
    let ts = slice_range l.tokens from to in
    let width : length ts ≡ to - from = span_length l.tokens from to (omega arith) inside in
    let size : length below ≡ to - from + 1 = row_width l parts from to below (omega arith) inside e in
    get_or_default below (at - from) d 0 (omega arith)
    ∙ ap (λ r. get_or r (at - from) 0) e ∙ counts_get l parts ts (at - from) (omega arith)
    ∙ ap (λ s. min 2 (length (cuts l parts s))) (rest_of l.tokens from at to low high)

two_if : (b : Bool) (xs : List (List ℕ)) → cond b (min 2 (length xs)) 0 ≡ min 2 (length (cond b xs []))
two_if true xs = refl
two_if false xs = refl

pub word_is : (l : Layout) (parts : List Part) (place : ℕ) (p : Part) (w : List ℕ) (from at to k after result d : ℕ) (below : List ℕ) → drop place parts ≡ p ∷ drop (place + 1) parts → p ≡ Word w → from ≤ at → at < to → to ≤ length l.tokens → below ≡ counts_of l (drop (place + 1) parts) (slice_range l.tokens from to) → k ≡ at - from → after ≡ get_or below (k + 1) d → result ≡ cond (has_word l at w) after 0 → result ≡ min 2 (length (cuts l (drop place parts) (slice_range l.tokens at to)))
unfolding has_word
word_is l parts place p w from at to k after result d below more is low high inside e here there h =
    let rest = drop (place + 1) parts in
    let one : k + 1 ≡ at + 1 - from = omega arith in
    h
    ∙ ap (λ n. cond (has_word l at w) n 0) (there ∙ ap (λ j. get_or below j d) one ∙ row_at_place l rest from (at + 1) to below d (omega arith) (omega arith) inside e)
    ∙ two_if (has_word l at w) (cuts l rest (slice_range l.tokens (at + 1) to))
    ∙ ap (λ s. min 2 (length (cuts l (Word w ∷ rest) s))) (sym (next l at to high inside))
    ∙ ap (λ ps. min 2 (length (cuts l ps (slice_range l.tokens at to)))) (sym (more ∙ ap (λ x. x ∷ rest) is))

pub slot_is : (l : Layout) (parts : List Part) (place : ℕ) (p : Part) (s : List ℕ) (from at to k result : ℕ) (i : PhraseLengths) (below : List ℕ) → drop place parts ≡ p ∷ drop (place + 1) parts → p ≡ Slot s → from ≤ at → at < to → to ≤ length l.tokens → below ≡ counts_of l (drop (place + 1) parts) (slice_range l.tokens from to) → k ≡ at - from → i ≡ row_at l (drop k (slice_range l.tokens from to)) → result ≡ min 2 (total below (k + i.least) (i.most + 1 - i.least)) → result ≡ min 2 (length (cuts l (drop place parts) (slice_range l.tokens at to)))
slot_is l parts place p s from at to k result i below more is low high inside e here row h =
    let rest = drop (place + 1) parts in
    let ts = slice_range l.tokens from to in
    let width : length ts ≡ to - from = span_length l.tokens from to (omega arith) inside in
    h
    ∙ ap (λ b. min 2 (total b (k + i.least) (i.most + 1 - i.least))) e
    ∙ ap (λ j. min 2 (total (counts_of l rest ts) (k + j.least) (j.most + 1 - j.least))) row
    ∙ slot_count_is l s rest ts k (omega arith)
    ∙ ap (λ u. min 2 (length (cuts l (Slot s ∷ rest) u))) (ap (λ j. drop j ts) here ∙ rest_of l.tokens from at to low (omega arith))
    ∙ ap (λ ps. min 2 (length (cuts l ps (slice_range l.tokens at to)))) (sym (more ∙ ap (λ x. x ∷ rest) is))

-- each phrase ends among the tokens
pub slot_inside : (l : Layout) (parts : List Part) (from to k : ℕ) (i : PhraseLengths) (below : List ℕ) → from ≤ to → to ≤ length l.tokens → k < to - from → below ≡ counts_of l parts (slice_range l.tokens from to) → i ≡ row_at l (drop k (slice_range l.tokens from to)) → k + i.most < length below
slot_inside l parts from to k i below low high inside e row =
    let ts = slice_range l.tokens from to in
    let width : length ts ≡ to - from = span_length l.tokens from to low high in
    let size : length below ≡ to - from + 1 = row_width l parts from to below low high e in
    let left : length (drop k ts) ≡ length ts - k = length-drop k ts in
    let within = lengths_within l (drop k ts) in
    let same : i.most ≡ (row_at l (drop k ts)).most = ap (λ j. j.most) row in
    omega arith

-- where a part is left, the end has no way
pub end_count : (l : Layout) (p : Part) (parts : List Part) → length (cuts l (p ∷ parts) []) ≡ 0
unfolding row_at
end_count l (Word w) parts = refl
end_count l (Slot s) parts = refl

-- a row with one more count
pub row_more : (l : Layout) (parts : List Part) (at to : ℕ) (row more : List ℕ) (count : ℕ) → at < to → to ≤ length l.tokens → count ≡ min 2 (length (cuts l parts (slice_range l.tokens at to))) → more ≡ row ++ count ∷ [] → more ++ counts_of l parts (slice_range l.tokens (at + 1) to) ≡ row ++ counts_of l parts (slice_range l.tokens at to)
row_more l parts at to row more count low high e pushed =
    let rest = counts_of l parts (slice_range l.tokens (at + 1) to) in
    let step : min 2 (length (cuts l parts (slice_range l.tokens at to))) ∷ rest ≡ counts_of l parts (slice_range l.tokens at to) =
    ap (λ s. min 2 (length (cuts l parts s)) ∷ rest) (next l at to low high) ∙ sym (ap (counts_of l parts) (next l at to low high)) in
    ap (λ xs. xs ++ rest) pushed ∙ append_assoc row (count ∷ []) rest ∙ ap (λ x. row ++ x ∷ rest) e ∙ ap (λ xs. row ++ xs) step

pub row_end : (l : Layout) (parts : List Part) (at to : ℕ) → to ≤ at → counts_of l parts (slice_range l.tokens at to) ≡ min 2 (length (cuts l parts [])) ∷ []
row_end l parts at to h = ap (counts_of l parts) (slice_none l.tokens at to h)

pub last_count : (l : Layout) (at to : ℕ) → at < to → to ≤ length l.tokens → 0 ≡ min 2 (length (cuts l [] (slice_range l.tokens at to)))
last_count l at to low high = sym (ap (λ s. min 2 (length (cuts l [] s))) (next l at to low high))

-- ---- the table

pub table_more : (l : Layout) (parts : List Part) (ts : List Token) (low : ℕ) (rows : List (List ℕ)) (row : List ℕ) → low < length parts → length rows ≡ length parts - low → IsTableOf l parts ts (low + 1) rows → row ≡ counts_of l (drop low parts) ts → IsTableOf l parts ts low (rows ++ row ∷ [])
table_more l parts ts low rows row some size h e place from to = ⊎_elim
    (λ (here : place < low + 1).
    let same : low ≡ place = omega arith in
    let at : length parts - place ≡ length rows = omega arith in
    ap (λ j. get_or (rows ++ row ∷ []) j []) at ∙ get_or_push rows row [] (length rows) refl ∙ e ∙ ap (λ j. counts_of l (drop j parts) ts) same)
    (λ (later : low + 1 ≤ place).
    get_or_append_left rows (row ∷ []) [] (length parts - place) (omega arith) ∙ h place later to)
    (cases_lt place (low + 1))

-- ---- the ways

-- a word takes one token in each way
pub word_way : (l : Layout) (w : List ℕ) (rest : List Part) (us : List Token) (rank : ℕ) → rank < length (cuts l (Word w ∷ rest) us) → (way_at l (Word w ∷ rest) us rank ≡ way_at l rest (drop 1 us) rank) × (rank < length (cuts l rest (drop 1 us))) × (0 < length us)
word_way l w rest [] rank h = absurd (omega arith)
word_way l w rest (t ∷ us) rank h = cases (is_this_word l w t) h
  where
    cases : (b : Bool) → rank < length (cond b (cuts l rest us) []) → (get_or (cond b (cuts l rest us) []) rank [] ≡ way_at l rest us rank) × (rank < length (cuts l rest us)) × (0 < length (t ∷ us))
    cases true g = (refl, g, omega arith)
    cases false g = absurd (omega arith)

pub word_on : (l : Layout) (parts : List Part) (place : ℕ) (p : Part) (w : List ℕ) (ts : List Token) (k rank : ℕ) → place < length parts → p ≡ get_or parts place p → p ≡ Word w → k ≤ length ts → rank < min 2 (length (cuts l (drop place parts) (drop k ts))) → IsWayOn l parts place ts k rank (record { taken = 1; rank = rank })
word_on l parts place p w ts k rank some at is low short =
    let rest = drop (place + 1) parts in
    let us = drop k ts in
    let more : drop place parts ≡ Word w ∷ rest = parts_more parts place p some at ∙ ap (λ x. x ∷ rest) is in
    let size : length us ≡ length ts - k = length-drop k ts in
    let few : rank < length (cuts l (Word w ∷ rest) us) = let e = ap (λ ps. length (cuts l ps us)) more in omega (arith, e, short) in
    let h = word_way l w rest us rank few in
    let part : is_slot (get_or parts place (Word [])) ≡ false = sym (ap is_slot (sym is ∙ get_or_read parts place p some at (Word []))) in
    let on : drop 1 us ≡ drop (k + 1) ts = drop-drop 1 k ts in
    let two : rank < min 2 (length (cuts l rest (drop 1 us))) = let g = h.1 in omega (arith, g, short) in
    record {
      way = ap (λ ps. way_at l ps us rank) more ∙ h.0 ∙ ap (λ s. way_at l rest s rank) on ∙ sym (cond-false (is_slot (get_or parts place (Word []))) (1 ∷ way_at l rest (drop (k + 1) ts) rank) (way_at l rest (drop (k + 1) ts) rank) part);
      left = let P : List Token → Type 0 = λ s. rank < min 2 (length (cuts l rest s)) in subst P on two;
      inside = let g = h.2 in omega (arith, g, size);
    }

pub slot_on : (l : Layout) (parts : List Part) (place : ℕ) (p : Part) (s : List ℕ) (from to k rank : ℕ) (i : PhraseLengths) (below : List ℕ) (chosen : Chosen) → place < length parts → p ≡ get_or parts place p → p ≡ Slot s → from ≤ to → to ≤ length l.tokens → k < to - from → below ≡ counts_of l (drop (place + 1) parts) (slice_range l.tokens from to) → i ≡ row_at l (drop k (slice_range l.tokens from to)) → rank < 2 → IsChosen below (k + i.least) (k + i.most + 1) rank chosen → IsWayOn l parts place (slice_range l.tokens from to) k rank (record { taken = i.least + (chosen.at - (k + i.least)); rank = chosen.rank })
slot_on l parts place p s from to k rank i below chosen some at is low high inside e row two h =
    let rest = drop (place + 1) parts in
    let ts = slice_range l.tokens from to in
    let us = drop k ts in
    let j = row_at l us in
    let more : drop place parts ≡ Slot s ∷ rest = parts_more parts place p some at ∙ ap (λ x. x ∷ rest) is in
    let width : length ts ≡ to - from = span_length l.tokens from to low high in
    let size : length us ≡ length ts - k = length-drop k ts in
    let within = lengths_within l us in
    let least : i.least ≡ j.least = ap (λ x. x.least) row in
    let most : i.most ≡ j.most = ap (λ x. x.most) row in
    let n = i.least + (chosen.at - (k + i.least)) in
    let first = h.low in
    let last = h.high in
    let there : k + n ≡ chosen.at = omega (arith, first) in
    let taken : chosen.at - k ≡ n = omega (arith, first) in
    let start : k + i.least ≡ k + j.least = omega arith in
    let in' : chosen.rank < get_or (counts_of l rest ts) chosen.at 0 = let g = h.inside in let f = ap (λ b. get_or b chosen.at 0) e in omega (arith, g, f) in
    let before : rank ≡ total (counts_of l rest ts) (k + j.least) (chosen.at - (k + j.least)) + chosen.rank =
    h.before ∙ ap (λ b. total b (k + i.least) (chosen.at - (k + i.least)) + chosen.rank) e ∙ ap (λ x. total (counts_of l rest ts) x (chosen.at - x) + chosen.rank) start in
    let way = slot_way_is l s rest ts k chosen.at chosen.rank rank (omega arith) two (omega (arith, first, least)) (omega (arith, last, most)) in' before in
    let part : is_slot (get_or parts place (Word [])) ≡ true = sym (ap is_slot (sym is ∙ get_or_read parts place p some at (Word []))) in
    let left : chosen.rank < min 2 (length (cuts l rest (drop chosen.at ts))) = let g = counts_get l rest ts chosen.at (omega (arith, last, most, within, size)) in omega (arith, g, in') in
    let back : drop chosen.at ts ≡ drop (k + n) ts = ap (λ x. drop x ts) (sym there) in
    record {
      way =
          ap (λ ps. way_at l ps us rank) more ∙ way ∙ ap (λ x. x ∷ way_at l rest (drop chosen.at ts) chosen.rank) taken
          ∙ ap (λ u. n ∷ way_at l rest u chosen.rank) back
          ∙ sym (cond-true (is_slot (get_or parts place (Word []))) (n ∷ way_at l rest (drop (k + n) ts) chosen.rank) (way_at l rest (drop (k + n) ts) chosen.rank) part);
      left = let P : List Token → Type 0 = λ u. chosen.rank < min 2 (length (cuts l rest u)) in subst P back left;
      inside = omega (arith, there, last, most, within, size);
    }

-- a slot with a way has a token
no_slot : (l : Layout) (s : List ℕ) (rest : List Part) (us : List Token) (rank : ℕ) → rank < length (cuts l (Slot s ∷ rest) us) → 0 < length us
no_slot l s rest [] rank h = absurd (omega arith)
no_slot l s rest (t ∷ us) rank h = omega arith

pub slot_place : (l : Layout) (parts : List Part) (place : ℕ) (p : Part) (s : List ℕ) (from to k rank : ℕ) → place < length parts → p ≡ get_or parts place p → p ≡ Slot s → from ≤ to → to ≤ length l.tokens → rank < min 2 (length (cuts l (drop place parts) (drop k (slice_range l.tokens from to)))) → k < to - from
slot_place l parts place p s from to k rank some at is low high short =
    let rest = drop (place + 1) parts in
    let us = drop k (slice_range l.tokens from to) in
    let more : drop place parts ≡ Slot s ∷ rest = parts_more parts place p some at ∙ ap (λ x. x ∷ rest) is in
    let width : length (slice_range l.tokens from to) ≡ to - from = span_length l.tokens from to low high in
    let size : length us ≡ length (slice_range l.tokens from to) - k = length-drop k (slice_range l.tokens from to) in
    let few : rank < length (cuts l (Slot s ∷ rest) us) = let e = ap (λ ps. length (cuts l ps us)) more in omega (arith, e, short) in
    let h = no_slot l s rest us rank few in
    omega (arith, h, size, width)

pub slot_rank : (l : Layout) (parts : List Part) (place : ℕ) (p : Part) (s : List ℕ) (from to k rank : ℕ) (i : PhraseLengths) (below : List ℕ) → place < length parts → p ≡ get_or parts place p → p ≡ Slot s → from ≤ to → to ≤ length l.tokens → k < to - from → below ≡ counts_of l (drop (place + 1) parts) (slice_range l.tokens from to) → i ≡ row_at l (drop k (slice_range l.tokens from to)) → rank < min 2 (length (cuts l (drop place parts) (drop k (slice_range l.tokens from to)))) → rank < total below (k + i.least) (k + i.most + 1 - (k + i.least))
slot_rank l parts place p s from to k rank i below some at is low high inside e row short =
    let rest = drop (place + 1) parts in
    let ts = slice_range l.tokens from to in
    let us = drop k ts in
    let width : length ts ≡ to - from = span_length l.tokens from to low high in
    let more : drop place parts ≡ Slot s ∷ rest = parts_more parts place p some at ∙ ap (λ x. x ∷ rest) is in
    let g = ap (λ ps. min 2 (length (cuts l ps us))) more in
    let h = slot_count_is l s rest ts k (omega (arith, width, inside)) in
    let f : total below (k + i.least) (i.most + 1 - i.least) ≡ total (counts_of l rest ts) (k + (row_at l us).least) ((row_at l us).most + 1 - (row_at l us).least) =
    ap (λ b. total b (k + i.least) (i.most + 1 - i.least)) e ∙ ap (λ j. total (counts_of l rest ts) (k + j.least) (j.most + 1 - j.least)) row in
    let n : k + i.most + 1 - (k + i.least) ≡ i.most + 1 - i.least = omega arith in
    let m = ap (total below (k + i.least)) n in
    omega (arith, g, h, f, m, short)

-- the count of all ways is the first of the last row
pub first_count : (l : Layout) (parts : List Part) (ts : List Token) (rows : List (List ℕ)) (row : List ℕ) → length rows ≡ length parts + 1 → IsTableOf l parts ts 0 rows → row ≡ get_or rows (length parts) row → get_or row 0 0 ≡ min 2 (length (cuts l parts ts))
first_count l parts ts rows row size h is =
    let all : length parts - 0 ≡ length parts = omega arith in
    ap (λ r. get_or r 0 0) (get_or_read rows (length parts) row (omega (arith, size)) is [] ∙ ap (λ n. get_or rows n []) (sym all) ∙ h 0 (omega arith) (omega arith))
    ∙ counts_get l parts ts 0 (omega arith)
