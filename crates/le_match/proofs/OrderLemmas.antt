-- The ways and the readings of a sentence stand in order, and none comes twice.
use Rattle.std.proofs.Common.{◌≡◌, ℕ, ◌+◌, ◌<◌, ◌≤◌, Bool, true, false, cond, Option, Some, None, List, [], ◌∷◌, ◌++◌, length, map, filter, flat_map, take, drop, get_or, sym, refl, ap, ◌∙◌, subst, arith, inl, inr, ⊎_elim}
use Rattle.std.specs.List.{AllByRecursion, All, Contains}
use Rattle.std.proofs.lemmas.Bool.{cases_lt}
use Rattle.std.proofs.lemmas.List.{length-map, get_or-drop, drop-drop}
use Rattle.std.proofs.lemmas.List.Elements.{All-from_recursion, Contains-append_left, Contains-append_right}
use Rattle.le_layout.specs.declared.token.Token.{Token}
use Rattle.le_layout.specs.declared.layout.Layout.{Layout}
use Rattle.le_layout.specs.Words.{is_this_word}
use Rattle.le_templates.specs.declared.part.Part.{Part}
use Rattle.le_templates.specs.declared.part.Part.TheVariants.{Word, Slot}
use Rattle.le_templates.specs.declared.part.Template.{Template}
use Rattle.le_templates.specs.Table.{template, table_of, in_use}
use Rattle.le_scope.specs.Phrases.{is_phrase}
use Rattle.le_match.specs.declared.readings.Reading.{Reading}
use Rattle.le_match.specs.Readings.{count_from, phrase_lengths, cuts, marked_length, marked_cuts, is_marked, ways, readings_by, readings_from, readings_of, parts_at}
use Rattle.le_match.specs.Shares.{Fits, IsRead}
use Rattle.le_match.specs.Order.{IsBefore, IsReadingBefore, InOrder}
use Rattle.le_match.proofs.BestLemmas.{table_length}
use Rattle.le_match.proofs.FitsLemmas.{all_read}
use Rattle.le_match.proofs.WholeLemmas.{in_map, ways_whole}

-- ---- lists in order

pub all_append : {X : Type 0} (P : X → Type 0) (a b : List X) → AllByRecursion P a → AllByRecursion P b → AllByRecursion P (a ++ b)
all_append P [] b h k = k
all_append P (x ∷ a) b h k = (h.0, all_append P a b h.1 k)

pub order_append : {X : Type 0} (B : X → X → Type 0) (a b : List X) → InOrder B a → InOrder B b → AllByRecursion (λ x. AllByRecursion (B x) b) a → InOrder B (a ++ b)
order_append B [] b h k c = k
order_append B (x ∷ a) b h k c = (all_append (B x) a b h.0 c.0, order_append B a b h.1 k c.1)

all_filter : {X : Type 0} (P : X → Type 0) (p : X → Bool) (xs : List X) → AllByRecursion P xs → AllByRecursion P (filter p xs)
all_filter P p [] h = tt
all_filter {X} P p (x ∷ xs) h = cases (p x) (all_filter P p xs h.1)
  where
    cases : (b : Bool) → AllByRecursion P (filter p xs) → AllByRecursion P (cond b (x ∷ filter p xs) (filter p xs))
    cases true k = (h.0, k)
    cases false k = k

order_filter : {X : Type 0} (B : X → X → Type 0) (p : X → Bool) (xs : List X) → InOrder B xs → InOrder B (filter p xs)
order_filter B p [] h = tt
order_filter {X} B p (x ∷ xs) h = cases (p x) (order_filter B p xs h.1)
  where
    cases : (b : Bool) → InOrder B (filter p xs) → InOrder B (cond b (x ∷ filter p xs) (filter p xs))
    cases true k = (all_filter (B x) p xs h.0, k)
    cases false k = k

-- ---- the lengths of phrases

abbrev pub IsLess : ℕ → ℕ → Type 0
IsLess m n = m < n

count_above : {X : Type 0} (m n : ℕ) (xs : List X) → m < n → AllByRecursion (IsLess m) (count_from n xs)
count_above m n [] h = tt
count_above m n (x ∷ xs) h = (h, count_above m (n + 1) xs (omega (arith, h)))

count_order : {X : Type 0} (n : ℕ) (xs : List X) → InOrder IsLess (count_from n xs)
count_order n [] = tt
count_order n (x ∷ xs) = (count_above n (n + 1) xs (omega arith), count_order (n + 1) xs)

lengths_order : (l : Layout) (ts : List Token) → InOrder IsLess (phrase_lengths l ts)
lengths_order l ts = order_filter IsLess (λ n. is_phrase l (take n ts)) (count_from 1 ts) (count_order 1 ts)

-- ---- the ways

abbrev onto_each : ℕ → List (List ℕ) → List (List ℕ)
onto_each n ws = map (λ w. n ∷ w) ws

onto_all : (n : ℕ) (w : List ℕ) (ws : List (List ℕ)) → AllByRecursion (IsBefore w) ws → AllByRecursion (IsBefore (n ∷ w)) (onto_each n ws)
onto_all n w [] h = tt
onto_all n w (v ∷ ws) h = (inr (refl, h.0), onto_all n w ws h.1)

onto_order : (n : ℕ) (ws : List (List ℕ)) → InOrder IsBefore ws → InOrder IsBefore (onto_each n ws)
onto_order n [] h = tt
onto_order n (w ∷ ws) h = (onto_all n w ws h.0, onto_order n ws h.1)

less_all : (m n : ℕ) (w : List ℕ) (ws : List (List ℕ)) → m < n → AllByRecursion (IsBefore (m ∷ w)) (onto_each n ws)
less_all m n w [] h = tt
less_all m n w (v ∷ ws) h = (inl h, less_all m n w ws h)

abbrev by_lengths : (ℕ → List (List ℕ)) → List ℕ → List (List ℕ)
by_lengths g ns = flat_map (λ n. map (λ w. n ∷ w) (g n)) ns

less_later : (g : ℕ → List (List ℕ)) (m : ℕ) (w : List ℕ) (ns : List ℕ) → AllByRecursion (IsLess m) ns → AllByRecursion (IsBefore (m ∷ w)) (by_lengths g ns)
less_later g m w [] h = tt
less_later g m w (n ∷ ns) h = all_append (IsBefore (m ∷ w)) (onto_each n (g n)) (by_lengths g ns) (less_all m n w (g n) h.0) (less_later g m w ns h.1)

each_later : (g : ℕ → List (List ℕ)) (m : ℕ) (ws : List (List ℕ)) (ns : List ℕ) → AllByRecursion (IsLess m) ns → AllByRecursion (λ w. AllByRecursion (IsBefore w) (by_lengths g ns)) (onto_each m ws)
each_later g m [] ns h = tt
each_later g m (w ∷ ws) ns h = (less_later g m w ns h, each_later g m ws ns h)

lengths_then : (g : ℕ → List (List ℕ)) → ((n : ℕ) → InOrder IsBefore (g n)) → (ns : List ℕ) → InOrder IsLess ns → InOrder IsBefore (by_lengths g ns)
lengths_then g h [] k = tt
lengths_then g h (n ∷ ns) k =
    order_append IsBefore (onto_each n (g n)) (by_lengths g ns) (onto_order n (g n) (h n)) (lengths_then g h ns k.1) (each_later g n (g n) ns k.0)

pub cuts_order : (l : Layout) (ps : List Part) (ts : List Token) → InOrder IsBefore (cuts l ps ts)
cuts_order l [] [] = (tt, tt)
cuts_order l [] (t ∷ ts) = tt
cuts_order l (Word w ∷ ps) [] = tt
cuts_order l (Word w ∷ ps) (t ∷ ts) = cases (is_this_word l w t) (cuts_order l ps ts)
  where
    cases : (b : Bool) → InOrder IsBefore (cuts l ps ts) → InOrder IsBefore (cond b (cuts l ps ts) [])
    cases true h = h
    cases false h = tt
cuts_order l (Slot s ∷ ps) ts = lengths_then (λ n. cuts l ps (drop n ts)) (λ n. cuts_order l ps (drop n ts)) (phrase_lengths l ts) (lengths_order l ts)

pub marked_one : (l : Layout) (ps : List Part) (ts : List Token) → length (marked_cuts l ps ts) ≤ 1
marked_one l [] [] = omega arith
marked_one l [] (t ∷ ts) = omega arith
marked_one l (Word w ∷ ps) [] = omega arith
marked_one l (Word w ∷ ps) (t ∷ ts) = cases (is_this_word l w t) (marked_one l ps ts)
  where
    cases : (b : Bool) → length (marked_cuts l ps ts) ≤ 1 → length (cond b (marked_cuts l ps ts) []) ≤ 1
    cases true h = h
    cases false h = omega arith
marked_one l (Slot s ∷ ps) ts = cases (marked_length l ts) (λ n. marked_one l ps (drop (n + 2) ts))
  where
    cases : (o : Option ℕ) → ((n : ℕ) → length (marked_cuts l ps (drop (n + 2) ts)) ≤ 1) → length (elim o as (λ _. List (List ℕ)) [ Some n ↦ map (λ ns. n ∷ ns) (marked_cuts l ps (drop (n + 2) ts)) | None ↦ [] ]) ≤ 1
    cases (Some n) h = let k = length-map (marked_cuts l ps (drop (n + 2) ts)) (λ ns. n ∷ ns) in let g = h n in omega (arith, k, g)
    cases None h = omega arith

one_order : {X : Type 0} (B : X → X → Type 0) (xs : List X) → length xs ≤ 1 → InOrder B xs
one_order B [] h = tt
one_order B (x ∷ []) h = (tt, tt)
one_order B (x ∷ y ∷ xs) h = absurd (omega (arith, h))

pub ways_order : (l : Layout) (ps : List Part) (ts : List Token) → InOrder IsBefore (ways l ps ts)
ways_order l ps ts = cases (is_marked ts)
  where
    cases : (b : Bool) → InOrder IsBefore (cond b (marked_cuts l ps ts) (cuts l ps ts))
    cases true = one_order IsBefore (marked_cuts l ps ts) (marked_one l ps ts)
    cases false = cuts_order l ps ts

pub ways_marked : (l : Layout) (ps : List Part) (ts : List Token) → is_marked ts ≡ true → length (ways l ps ts) ≤ 1
ways_marked l ps ts e =
    let P : Bool → Type 0 = λ b. length (cond b (marked_cuts l ps ts) (cuts l ps ts)) ≤ 1 in
    subst P (sym e) (marked_one l ps ts)

-- ---- the readings

by_all : (p : ℕ) (w : List ℕ) (ws : List (List ℕ)) → AllByRecursion (IsBefore w) ws → AllByRecursion (IsReadingBefore (record { pred = p; lengths = w })) (readings_by p ws)
by_all p w [] h = tt
by_all p w (v ∷ ws) h = (inr (refl, h.0), by_all p w ws h.1)

by_order : (p : ℕ) (ws : List (List ℕ)) → InOrder IsBefore ws → InOrder IsReadingBefore (readings_by p ws)
by_order p [] h = tt
by_order p (w ∷ ws) h = (by_all p w ws h.0, by_order p ws h.1)

by_less : (r : Reading) (p : ℕ) (ws : List (List ℕ)) → r.pred < p → AllByRecursion (IsReadingBefore r) (readings_by p ws)
by_less r p [] h = tt
by_less r p (w ∷ ws) h = (inl h, by_less r p ws h)

-- the readings by one template, if it is in use
abbrev pub one_template : List Template → Layout → List Token → ℕ → Template → List Reading
one_template us l ts p x = cond (in_use us p) (readings_by p (ways l x.parts ts)) []

template_less : (us : List Template) (l : Layout) (ts : List Token) (r : Reading) (p : ℕ) (x : Template) → r.pred < p → AllByRecursion (IsReadingBefore r) (one_template us l ts p x)
template_less us l ts r p x h = cases (in_use us p)
  where
    cases : (b : Bool) → AllByRecursion (IsReadingBefore r) (cond b (readings_by p (ways l x.parts ts)) [])
    cases true = by_less r p (ways l x.parts ts) h
    cases false = tt

later_less : (us : List Template) (l : Layout) (ts : List Token) (r : Reading) (p : ℕ) (xs : List Template) → r.pred < p → AllByRecursion (IsReadingBefore r) (readings_from us l ts p xs)
later_less us l ts r p [] h = tt
later_less us l ts r p (x ∷ xs) h =
    all_append (IsReadingBefore r) (one_template us l ts p x) (readings_from us l ts (p + 1) xs) (template_less us l ts r p x h) (later_less us l ts r (p + 1) xs (omega (arith, h)))

all_less : (us : List Template) (l : Layout) (ts : List Token) (p : ℕ) (ws : List (List ℕ)) (xs : List Template) → AllByRecursion (λ r. AllByRecursion (IsReadingBefore r) (readings_from us l ts (p + 1) xs)) (readings_by p ws)
all_less us l ts p [] xs = tt
all_less us l ts p (w ∷ ws) xs = (later_less us l ts (record { pred = p; lengths = w }) (p + 1) xs (omega arith), all_less us l ts p ws xs)

from_order : (us : List Template) (l : Layout) (ts : List Token) (p : ℕ) (xs : List Template) → InOrder IsReadingBefore (readings_from us l ts p xs)
from_order us l ts p [] = tt
from_order us l ts p (x ∷ xs) = cases (in_use us p) (from_order us l ts (p + 1) xs)
  where
    cases : (b : Bool) → InOrder IsReadingBefore (readings_from us l ts (p + 1) xs) → InOrder IsReadingBefore (cond b (readings_by p (ways l x.parts ts)) [] ++ readings_from us l ts (p + 1) xs)
    cases true h = order_append IsReadingBefore (readings_by p (ways l x.parts ts)) (readings_from us l ts (p + 1) xs) (by_order p (ways l x.parts ts) (ways_order l x.parts ts)) h (all_less us l ts p (ways l x.parts ts) xs)
    cases false h = h

pub readings_order : (us : List Template) (l : Layout) (ts : List Token) → InOrder IsReadingBefore (readings_of us l ts)
unfolding readings_of
readings_order us l ts = from_order us l ts 0 (table_of us)

-- ---- every reading is there

from_whole : (us : List Template) (l : Layout) (ts : List Token) (p : ℕ) (ws : List ℕ) (q : ℕ) (xs : List Template) → drop q (table_of us) ≡ xs → q ≤ p → p < q + length xs → in_use us p ≡ true → Contains (ways l (parts_at us p) ts) ws → Contains (readings_from us l ts q xs) (record { pred = p; lengths = ws })
from_whole us l ts p ws q [] e low high used c = absurd (omega (arith, low, high))
from_whole us l ts p ws q (x ∷ xs) e low high used c = ⊎_elim
    (λ (h : q < p). Contains-append_right (one_template us l ts q x) (readings_from us l ts (q + 1) xs) (record { pred = p; lengths = ws })
    (from_whole us l ts p ws (q + 1) xs (sym (drop-drop 1 q (table_of us)) ∙ ap (drop 1) e) (omega (arith, h)) (omega (arith, high)) used c))
    (λ (h : p ≤ q).
    let same : p ≡ q = omega (arith, low, h) in
    let zero' : q ≡ q + 0 = omega arith in
    let here : x ≡ get_or (table_of us) q (template []) = ap (λ ys. get_or ys 0 (template [])) (sym e) ∙ get_or-drop q (table_of us) 0 (template []) ∙ ap (λ k. get_or (table_of us) k (template [])) (sym zero') in
    let parts : parts_at us p ≡ x.parts = ap (parts_at us) same ∙ sym (ap (λ t. t.parts) here) in
    let P : List Part → Type 0 = λ ps. Contains (ways l ps ts) ws in
    let there : Contains (readings_by q (ways l x.parts ts)) (record { pred = q; lengths = ws }) = in_map (λ ns. record { pred = q; lengths = ns }) (ways l x.parts ts) ws (subst P parts c) in
    let Q : Bool → Type 0 = λ b. Contains (cond b (readings_by q (ways l x.parts ts)) []) (record { pred = q; lengths = ws }) in
    let first : Contains (one_template us l ts q x) (record { pred = q; lengths = ws }) = subst Q (sym (ap (in_use us) (sym same) ∙ used)) there in
    let R : ℕ → Type 0 = λ k. Contains (readings_from us l ts q (x ∷ xs)) (record { pred = k; lengths = ws }) in
    subst R (sym same) (Contains-append_left (one_template us l ts q x) (readings_from us l ts (q + 1) xs) (record { pred = q; lengths = ws }) first))
    (cases_lt q p)

pub readings_whole : (us : List Template) (l : Layout) (ts : List Token) (r : Reading) → is_marked ts ≡ false → r.pred < 20 + length us → in_use us r.pred ≡ true → IsRead us l ts r → Contains (readings_of us l ts) r
unfolding readings_of
readings_whole us l ts r e high used fits =
    let size = table_length us in
    let P : Bool → Type 0 = λ b. Fits l (cond b 1 0) (parts_at us r.pred) ts r.lengths in
    from_whole us l ts r.pred r.lengths 0 (table_of us) refl (omega arith) (omega (arith, high, size)) used (ways_whole l (parts_at us r.pred) ts r.lengths e (subst P e fits))

pub readings_read : (us : List Template) (l : Layout) (ts : List Token) → All (IsRead us l ts) (readings_of us l ts)
unfolding readings_of
readings_read us l ts = all_read us l ts 0 (table_of us) refl

-- each reading's template is one of the table that is in use
abbrev IsUsed : List Template → Reading → Type 0
IsUsed us r = (r.pred < 20 + length us) × (in_use us r.pred ≡ true)

by_used : (us : List Template) (p : ℕ) (ws : List (List ℕ)) → p < 20 + length us → in_use us p ≡ true → AllByRecursion (IsUsed us) (readings_by p ws)
by_used us p [] h e = tt
by_used us p (w ∷ ws) h e = ((h, e), by_used us p ws h e)

from_used : (us : List Template) (l : Layout) (ts : List Token) (p : ℕ) (xs : List Template) → p + length xs ≤ 20 + length us → AllByRecursion (IsUsed us) (readings_from us l ts p xs)
from_used us l ts p [] h = tt
from_used us l ts p (x ∷ xs) h =
    all_append (IsUsed us) (one_template us l ts p x) (readings_from us l ts (p + 1) xs) (cases (in_use us p) refl) (from_used us l ts (p + 1) xs (omega (arith, h)))
  where
    cases : (b : Bool) → in_use us p ≡ b → AllByRecursion (IsUsed us) (cond b (readings_by p (ways l x.parts ts)) [])
    cases true e = by_used us p (ways l x.parts ts) (omega (arith, h)) e
    cases false e = tt

pub readings_used : (us : List Template) (l : Layout) (ts : List Token) → All (λ r. (r.pred < 20 + length us) × (in_use us r.pred ≡ true)) (readings_of us l ts)
unfolding readings_of
readings_used us l ts = let size = table_length us in All-from_recursion (IsUsed us) (readings_from us l ts 0 (table_of us)) (from_used us l ts 0 (table_of us) (omega (arith, size)))
