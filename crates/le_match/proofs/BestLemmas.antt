-- The best of some readings, with those by one more template.
use Rattle.std.proofs.Common.{◌≡◌, ℕ, zero, suc, ◌+◌, ◌<◌, ◌≤◌, ◌==◌, max, Bool, true, false, nat_lt, cond, Some, Result, Ok, Err, OnOk, List, [], ◌∷◌, ◌++◌, length, filter, take, get_or, slice_get, sym, refl, ap, ◌∙◌, subst, arith, append_assoc}
use Rattle.std.specs.List.{All}
use Rattle.std.proofs.lemmas.Bool.{eq-eqb, ne_eqb, ltb-true, ltb-false}
use Rattle.std.proofs.lemmas.List.{append-nil, take-take, take-map, take_all, length-append}
use Rattle.std.proofs.lemmas.List.Elements.{filter-append, All-nil, All-append, All-filter, All-head, All-tail, All-cons}
use Rattle.std.proofs.lemmas.Option.{get_or_from_slice_get, slice_get-get_or}
use Rattle.le_layout.specs.declared.token.Token.{Token}
use Rattle.le_layout.specs.declared.layout.Layout.{Layout}
use Rattle.le_templates.specs.declared.part.Template.{Template}
use Rattle.le_templates.specs.Form.{word_count}
use Rattle.le_templates.specs.Table.{template, table_of, in_use}
use Rattle.le_match.specs.declared.readings.Reading.{Reading}
use Rattle.le_match.specs.Readings.{ways, readings_by, readings_from, readings_of, parts_at, words_of, most_words, best_readings, first_two, best_of, IsInTable}
use Rattle.le_match.specs.declared.choosing.Found.{Found}
use Rattle.le_match.specs.Walks.{IsBestOf, readings_before, most_with, readings_with}
use Rattle.le_templates.specs.Table.{predefined}
use Rattle.le_templates.proofs.TableLemmas.{length-predefined}
use Rattle.le_match.proofs.CutLemmas.{two_front, two_behind}

-- ---- words

pub most_append : (us : List Template) (a b : List Reading) → most_words us (a ++ b) ≡ max (most_words us a) (most_words us b)
most_append us [] b = omega arith
most_append us (r ∷ a) b = let h = most_append us a b in omega arith

-- readings by one template have its words
pub most_by : (us : List Template) (pred w : ℕ) (n : List ℕ) (ns : List (List ℕ)) → w ≡ word_count (parts_at us pred) → most_words us (readings_by pred (n ∷ ns)) ≡ w
most_by us pred w n ns e = let h = below ns in omega arith
  where
    below : (ks : List (List ℕ)) → most_words us (readings_by pred ks) ≤ word_count (parts_at us pred)
    below [] = omega arith
    below (k ∷ ks) = let h = below ks in omega arith

pub all_by : (us : List Template) (pred m : ℕ) (ns : List (List ℕ)) → word_count (parts_at us pred) ≡ m → filter (λ r. words_of us r == m) (readings_by pred ns) ≡ readings_by pred ns
all_by us pred m [] e = refl
all_by us pred m (n ∷ ns) e =
    let r : Reading = record { pred = pred; lengths = n } in
    let F = filter (λ r. words_of us r == m) (readings_by pred ns) in
    ap (λ b. cond b (r ∷ F) F) (eq-eqb (word_count (parts_at us pred)) m e) ∙ ap (λ s. r ∷ s) (all_by us pred m ns e)

pub none_by : (us : List Template) (pred m : ℕ) (ns : List (List ℕ)) → (word_count (parts_at us pred) ≡ m → ⊥) → filter (λ r. words_of us r == m) (readings_by pred ns) ≡ []
none_by us pred m [] e = refl
none_by us pred m (n ∷ ns) e =
    let r : Reading = record { pred = pred; lengths = n } in
    let F = filter (λ r. words_of us r == m) (readings_by pred ns) in
    ap (λ b. cond b (r ∷ F) F) (ne_eqb (word_count (parts_at us pred)) m e) ∙ none_by us pred m ns e

pub none_above : (us : List Template) (m : ℕ) (rs : List Reading) → most_words us rs < m → filter (λ r. words_of us r == m) rs ≡ []
none_above us m [] h = refl
none_above us m (r ∷ rs) h =
    let F = filter (λ r. words_of us r == m) rs in
    let other : words_of us r ≡ m → ⊥ = λ (e : words_of us r ≡ m). omega arith in
    ap (λ b. cond b (r ∷ F) F) (ne_eqb (words_of us r) m other) ∙ none_above us m rs (omega arith)

-- ---- the best, with those by one more template

-- what is kept of the best where a template with so many words has readings
abbrev pub kept : ℕ → ℕ → List Reading → List Reading
kept most w best = cond (nat_lt most w) [] best

pub best_fewer : (us : List Template) (rs : List Reading) (pred w : ℕ) (ns : List (List ℕ)) → w ≡ word_count (parts_at us pred) → w < most_words us rs → best_readings us (rs ++ readings_by pred ns) ≡ best_readings us rs
best_fewer us rs pred w [] e h = ap (best_readings us) (append-nil rs)
best_fewer us rs pred w (n ∷ ns) e h =
    let new = readings_by pred (n ∷ ns) in
    let m = most_words us rs in
    let by = most_by us pred w n ns e in
    let both : most_words us (rs ++ new) ≡ m = most_append us rs new ∙ (let g : max (most_words us rs) (most_words us new) ≡ m = omega arith in g) in
    let other : word_count (parts_at us pred) ≡ m → ⊥ = λ (g : word_count (parts_at us pred) ≡ m). omega arith in
    ap (λ k. filter (λ r. words_of us r == k) (rs ++ new)) both
    ∙ filter-append (λ r. words_of us r == m) rs new
    ∙ ap (λ s. filter (λ r. words_of us r == m) rs ++ s) (none_by us pred m (n ∷ ns) other)
    ∙ append-nil (filter (λ r. words_of us r == m) rs)

pub most_fewer : (us : List Template) (rs : List Reading) (pred w : ℕ) (ns : List (List ℕ)) → w ≡ word_count (parts_at us pred) → w < most_words us rs → most_words us (rs ++ readings_by pred ns) ≡ most_words us rs
most_fewer us rs pred w [] e h = ap (most_words us) (append-nil rs)
most_fewer us rs pred w (n ∷ ns) e h =
    let by = most_by us pred w n ns e in
    let both = most_append us rs (readings_by pred (n ∷ ns)) in
    omega arith

pub most_more : (us : List Template) (rs : List Reading) (pred w : ℕ) (n : List ℕ) (ns : List (List ℕ)) → w ≡ word_count (parts_at us pred) → most_words us rs ≤ w → most_words us (rs ++ readings_by pred (n ∷ ns)) ≡ w
most_more us rs pred w n ns e h =
    let by = most_by us pred w n ns e in
    let both = most_append us rs (readings_by pred (n ∷ ns)) in
    omega arith

pub best_more : (us : List Template) (rs : List Reading) (pred w : ℕ) (n : List ℕ) (ns : List (List ℕ)) → w ≡ word_count (parts_at us pred) → most_words us rs ≤ w → best_readings us (rs ++ readings_by pred (n ∷ ns)) ≡ kept (most_words us rs) w (best_readings us rs) ++ readings_by pred (n ∷ ns)
best_more us rs pred w n ns e h =
    let new = readings_by pred (n ∷ ns) in
    ap (λ k. filter (λ r. words_of us r == k) (rs ++ new)) (most_more us rs pred w n ns e h)
    ∙ filter-append (λ r. words_of us r == w) rs new
    ∙ ap (λ s. filter (λ r. words_of us r == w) rs ++ s) (all_by us pred w (n ∷ ns) (sym e))
    ∙ ap (λ s. s ++ new) (old (nat_lt (most_words us rs) w) refl)
  where
    old : (b : Bool) → nat_lt (most_words us rs) w ≡ b → filter (λ r. words_of us r == w) rs ≡ cond (nat_lt (most_words us rs) w) [] (best_readings us rs)
    old true g = none_above us w rs (ltb-true (most_words us rs) w g) ∙ ap (λ b. cond b [] (best_readings us rs)) (sym g)
    old false g =
        let high : w ≤ most_words us rs = ltb-false (most_words us rs) w g in
        let same : w ≡ most_words us rs = omega arith in
        ap (λ k. filter (λ r. words_of us r == k) rs) same ∙ ap (λ b. cond b [] (best_readings us rs)) (sym g)

-- ---- the first two of them

-- of a template's ways the first two are enough
pub two_by : (pred : ℕ) (a : List Reading) (ns : List (List ℕ)) → take 2 (a ++ readings_by pred (take 2 ns)) ≡ take 2 (a ++ readings_by pred ns)
two_by pred a ns =
    two_behind a (readings_by pred (take 2 ns)) (readings_by pred ns)
    (ap (take 2) (sym (take-map (λ ks. record { pred = pred; lengths = ks }) 2 ns)) ∙ take-take 2 2 (readings_by pred ns) (omega arith))

pub two_kept : (most w : ℕ) (best new : List Reading) → take 2 (kept most w (take 2 best) ++ new) ≡ take 2 (kept most w best ++ new)
two_kept most w best new = cases (nat_lt most w)
  where
    cases : (b : Bool) → take 2 (cond b [] (take 2 best) ++ new) ≡ take 2 (cond b [] best ++ new)
    cases true = refl
    cases false = two_front best new

-- the most words, and the first two of the best, with those by a template that has no fewer words
pub most_step : (us : List Template) (rs : List Reading) (pred w most : ℕ) (ns : List (List ℕ)) → w ≡ word_count (parts_at us pred) → most ≡ most_words us rs → most ≤ w → most_with w (take 2 ns) most ≡ most_words us (rs ++ readings_by pred ns)
most_step us rs pred w most [] e same h = same ∙ ap (most_words us) (sym (append-nil rs))
most_step us rs pred w most (n ∷ []) e same h = sym (most_more us rs pred w n [] e (omega arith))
most_step us rs pred w most (n ∷ k ∷ ns) e same h = sym (most_more us rs pred w n (k ∷ ns) e (omega arith))

pub best_step : (us : List Template) (rs : List Reading) (pred w most : ℕ) (ns : List (List ℕ)) (found : List Reading) → w ≡ word_count (parts_at us pred) → most ≡ most_words us rs → most ≤ w → found ≡ take 2 (best_readings us rs) → readings_with pred w (take 2 ns) most found ≡ take 2 (best_readings us (rs ++ readings_by pred ns))
best_step us rs pred w most [] found e same h is = is ∙ ap (λ x. take 2 (best_readings us x)) (sym (append-nil rs))
best_step us rs pred w most (n ∷ ns) found e same h is =
    some (take 2 (n ∷ ns)) refl
    ∙ ap (λ f. take 2 (kept most w f ++ readings_by pred (take 2 (n ∷ ns)))) is
    ∙ two_kept most w (best_readings us rs) (readings_by pred (take 2 (n ∷ ns)))
    ∙ two_by pred (kept most w (best_readings us rs)) (n ∷ ns)
    ∙ ap (λ k. take 2 (kept k w (best_readings us rs) ++ readings_by pred (n ∷ ns))) same
    ∙ ap (take 2) (sym (best_more us rs pred w n ns e (omega arith)))
  where
    some : (ks : List (List ℕ)) → take 2 (n ∷ ns) ≡ ks → readings_with pred w (take 2 (n ∷ ns)) most found ≡ take 2 (kept most w found ++ readings_by pred (take 2 (n ∷ ns)))
    some ks g = refl

-- ---- one template after another

-- the readings by a template, where it is in use
abbrev pub readings_at : List Template → Layout → List Token → ℕ → Template → List Reading
readings_at us l ts p t = cond (in_use us p) (readings_by p (ways l t.parts ts)) []

pub from_more : (us : List Template) (l : Layout) (ts : List Token) (p n : ℕ) (xs : List Template) (t : Template) → slice_get xs n ≡ Some t → readings_from us l ts p (take (suc n) xs) ≡ readings_from us l ts p (take n xs) ++ readings_at us l ts (p + n) t
from_more us l ts p n [] t h = cc
from_more us l ts p zero (x ∷ xs) t h =
    let same : x ≡ t = cc in
    let at : p ≡ p + 0 = omega arith in
    append-nil (readings_at us l ts p x) ∙ ap (readings_at us l ts p) same ∙ ap (λ k. readings_at us l ts k t) at
from_more us l ts p (suc n) (x ∷ xs) t h =
    let at : p + 1 + n ≡ p + suc n = omega arith in
    ap (λ s. readings_at us l ts p x ++ s) (from_more us l ts (p + 1) n xs t h)
    ∙ sym (append_assoc (readings_at us l ts p x) (readings_from us l ts (p + 1) (take n xs)) (readings_at us l ts (p + 1 + n) t))
    ∙ ap (λ k. (readings_at us l ts p x ++ readings_from us l ts (p + 1) (take n xs)) ++ readings_at us l ts k t) at

pub before_more : (us : List Template) (l : Layout) (ts : List Token) (n : ℕ) (t : Template) (b : Bool) → slice_get (table_of us) n ≡ Some t → b ≡ in_use us n → readings_before us l ts (n + 1) ≡ readings_before us l ts n ++ cond b (readings_by n (ways l t.parts ts)) []
before_more us l ts n t b h e =
    let one_more : n + 1 ≡ suc n = omega arith in
    let at : 0 + n ≡ n = omega arith in
    ap (λ k. readings_from us l ts 0 (take k (table_of us))) one_more ∙ from_more us l ts 0 n (table_of us) t h
    ∙ ap (λ k. readings_before us l ts n ++ readings_at us l ts k t) at
    ∙ ap (λ v. readings_before us l ts n ++ cond v (readings_by n (ways l t.parts ts)) []) (sym e)

pub before_all : (us : List Template) (l : Layout) (ts : List Token) (n : ℕ) → length (table_of us) ≤ n → readings_before us l ts n ≡ readings_of us l ts
unfolding readings_of
before_all us l ts n h = ap (readings_from us l ts 0) (take_all n (table_of us) h)

pub words_at : (us : List Template) (n : ℕ) (t : Template) → slice_get (table_of us) n ≡ Some t → word_count t.parts ≡ word_count (parts_at us n)
words_at us n t h = ap (λ x. word_count x.parts) (sym (get_or_from_slice_get (table_of us) n t (template []) h))

-- ---- the end

pub first_two_take : (rs : List Reading) → first_two (take 2 rs) ≡ first_two rs
first_two_take [] = refl
first_two_take (r ∷ []) = refl
first_two_take (r ∷ s ∷ rs) = refl

pub best_is : (us : List Template) (l : Layout) (ts : List Token) (found : List Reading) → found ≡ take 2 (best_readings us (readings_of us l ts)) → first_two found ≡ best_of us l ts
unfolding best_of
best_is us l ts found e = ap first_two e ∙ first_two_take (best_readings us (readings_of us l ts))

-- ---- what is found, with one template more

pub table_length : (us : List Template) → length (table_of us) ≡ 20 + length us
table_length us = length-append predefined us ∙ ap (λ n. n + length us) length-predefined

pub best_of_unused : (us : List Template) (l : Layout) (ts : List Token) (n : ℕ) (found : Found) → n < 20 + length us → false ≡ in_use us n → IsBestOf us (readings_before us l ts n) found → IsBestOf us (readings_before us l ts (n + 1)) found
best_of_unused us l ts n found low e h =
    let size = table_length us in
    let P : List Reading → Type 0 = λ rs. IsBestOf us rs found in
    let same = before_more us l ts n (get_or (table_of us) n (template [])) false (slice_get-get_or (table_of us) n (template []) (omega arith)) e ∙ append-nil (readings_before us l ts n) in
    subst P (sym same) h

pub best_of_fewer : (us : List Template) (l : Layout) (ts : List Token) (n : ℕ) (t : Template) (w : ℕ) (found : Found) → slice_get (table_of us) n ≡ Some t → true ≡ in_use us n → w ≡ word_count t.parts → IsBestOf us (readings_before us l ts n) found → w < found.most → IsBestOf us (readings_before us l ts (n + 1)) found
best_of_fewer us l ts n t w found at e words h low =
    let P : List Reading → Type 0 = λ rs. IsBestOf us rs found in
    let rs = readings_before us l ts n in
    let ns = ways l t.parts ts in
    let count = words ∙ words_at us n t at in
    let fewer : w < most_words us rs = let same = h.most in omega arith in
    subst P (sym (before_more us l ts n t true at e))
    (record { most = h.most ∙ sym (most_fewer us rs n w ns count fewer); readings = h.readings ∙ ap (take 2) (sym (best_fewer us rs n w ns count fewer)) })

pub best_of_more : (us : List Template) (l : Layout) (ts : List Token) (n : ℕ) (t : Template) (w : ℕ) (ks : List (List ℕ)) (found more : Found) → slice_get (table_of us) n ≡ Some t → true ≡ in_use us n → w ≡ word_count t.parts → IsBestOf us (readings_before us l ts n) found → found.most ≤ w → ks ≡ take 2 (ways l t.parts ts) → more.most ≡ most_with w ks found.most → more.readings.items ≡ readings_with n w ks found.most found.readings.items → IsBestOf us (readings_before us l ts (n + 1)) more
best_of_more us l ts n t w ks found more at e words h low is most readings =
    let P : List Reading → Type 0 = λ rs. IsBestOf us rs more in
    let rs = readings_before us l ts n in
    let ns = ways l t.parts ts in
    let count = words ∙ words_at us n t at in
    subst P (sym (before_more us l ts n t true at e))
    (record {
      most = most ∙ ap (λ k. most_with w k found.most) is ∙ most_step us rs n w found.most ns count h.most low;
      readings = readings ∙ ap (λ k. readings_with n w k found.most found.readings.items) is ∙ best_step us rs n w found.most ns found.readings.items count h.most low h.readings;
    })

-- ---- the predicates of readings

pub in_table_by : (m p : ℕ) (ns : List (List ℕ)) → p < m → All (λ (r : Reading). r.pred < m) (readings_by p ns)
in_table_by m p [] h = All-nil (λ (r : Reading). r.pred < m)
in_table_by m p (n ∷ ns) h = All-cons (λ (r : Reading). r.pred < m) (record { pred = p; lengths = n }) (readings_by p ns) h (in_table_by m p ns h)

pub in_table_at : (us : List Template) (l : Layout) (ts : List Token) (m p : ℕ) (t : Template) → p < m → All (λ (r : Reading). r.pred < m) (readings_at us l ts p t)
in_table_at us l ts m p t h = cases (in_use us p)
  where
    cases : (b : Bool) → All (λ (r : Reading). r.pred < m) (cond b (readings_by p (ways l t.parts ts)) [])
    cases true = in_table_by m p (ways l t.parts ts) h
    cases false = All-nil (λ (r : Reading). r.pred < m)

pub in_table_from : (us : List Template) (l : Layout) (ts : List Token) (m p : ℕ) (xs : List Template) → p + length xs ≤ m → All (λ (r : Reading). r.pred < m) (readings_from us l ts p xs)
in_table_from us l ts m p [] h = All-nil (λ (r : Reading). r.pred < m)
in_table_from us l ts m p (x ∷ xs) h =
    All-append (λ (r : Reading). r.pred < m) (readings_at us l ts p x) (readings_from us l ts (p + 1) xs)
    (in_table_at us l ts m p x (omega arith)) (in_table_from us l ts m (p + 1) xs (omega arith))

pub two_in_table : (us : List Template) (rs : List Reading) → All (λ (r : Reading). r.pred < 20 + length us) rs → IsInTable us (first_two rs)
two_in_table us [] h = tt
two_in_table us (r ∷ []) h = All-head (λ (r : Reading). r.pred < 20 + length us) r [] h
two_in_table us (r ∷ s ∷ rs) h =
    (All-head (λ (r : Reading). r.pred < 20 + length us) r (s ∷ rs) h, All-head (λ (r : Reading). r.pred < 20 + length us) s rs (All-tail (λ (r : Reading). r.pred < 20 + length us) r (s ∷ rs) h))

pub in_table : (us : List Template) (l : Layout) (ts : List Token) → IsInTable us (best_of us l ts)
unfolding best_of readings_of
in_table us l ts =
    let size = table_length us in
    let rs = readings_of us l ts in
    two_in_table us (best_readings us rs)
    (All-filter (λ r. words_of us r == most_words us rs) (λ (r : Reading). r.pred < 20 + length us) rs (in_table_from us l ts (20 + length us) 0 (table_of us) (omega arith)))

-- a clause on Ok from two others
pub both_ok : {X E : Type 0} (r : Result X E) (P Q R : Type 0) → OnOk r P → OnOk r Q → (P → Q → R) → OnOk r R
both_ok (Ok x) P Q R p q f = f p q
both_ok (Err e) P Q R p q f = tt
