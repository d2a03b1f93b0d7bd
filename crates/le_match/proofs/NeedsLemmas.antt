-- A template one of whose words is no token of a sentence reads it in no way.
use Rattle.std.proofs.Common.{◌≡◌, ℕ, zero, suc, ◌+◌, ◌-◌, ◌<◌, ◌≤◌, length, get_or, slice_get, subst, arith, Bool, true, false, cond, not, ◌||◌, List, [], ◌∷◌, ◌++◌, map, flat_map, drop, Option, Some, None, sym, refl, ap, ◌∙◌, ◌⊎◌, ⊎_elim, inl, inr}
use Rattle.std.specs.List.{list_any}
use Rattle.std.proofs.lemmas.Bool.{or_cases, not-true, not_from_false, or_parts, cond_both, cases_lt}
use Rattle.le_layout.specs.declared.token.Token.{Token}
use Rattle.le_layout.specs.declared.layout.Layout.{Layout}
use Rattle.le_layout.specs.Words.{is_this_word}
use Rattle.le_templates.specs.declared.part.Part.{Part}
use Rattle.le_templates.specs.declared.part.Part.TheVariants.{Word, Slot}
use Rattle.std.proofs.lemmas.List.{append-nil}
use Rattle.std.proofs.lemmas.Option.{slice_get-get_or}
use Rattle.le_templates.specs.declared.part.Template.{Template}
use Rattle.le_templates.specs.Table.{template, table_of, in_use}
use Rattle.le_templates.specs.Needs.{is_missed, lacks, lacks_at, StandsFrom, AreLeft, IsAscending}
use Rattle.le_match.specs.declared.readings.Reading.{Reading}
use Rattle.le_match.specs.declared.choosing.Found.{Found}
use Rattle.le_match.specs.Walks.{readings_before, IsBestOf}
use Rattle.le_match.proofs.BestLemmas.{table_length, before_more}
use Rattle.le_match.specs.Readings.{phrase_lengths, cuts, marked_length, marked_cuts, is_marked, ways, readings_by}

-- a word that none of some tokens is is none of those after the first
none_after : (p : Token → Bool) (t : Token) (ts : List Token) → not (list_any p (t ∷ ts)) ≡ true → (p t ≡ false) × (not (list_any p ts) ≡ true)
none_after p t ts h =
    let g = or_parts (p t) (list_any p ts) (not-true (list_any p (t ∷ ts)) h) in
    (g.0, not_from_false (list_any p ts) g.1)

missed_after : (l : Layout) (t : Token) (ts : List Token) (part : Part) → is_missed l (t ∷ ts) part ≡ true → is_missed l ts part ≡ true
missed_after l t ts (Word w) h = (none_after (is_this_word l w) t ts h).1
missed_after l t ts (Slot s) h = h

-- what lacks a word among tokens lacks it among those that follow
lacks_one : (l : Layout) (t : Token) (ts : List Token) (parts : List Part) → lacks l (t ∷ ts) parts ≡ true → lacks l ts parts ≡ true
lacks_one l t ts [] h = h
lacks_one l t ts (part ∷ parts) h =
    both (is_missed l ts part) (lacks l ts parts)
    (⊎_elim
    (λ (m : is_missed l (t ∷ ts) part ≡ true). inl (missed_after l t ts part m))
    (λ (r : lacks l (t ∷ ts) parts ≡ true). inr (lacks_one l t ts parts r))
    (or_cases (is_missed l (t ∷ ts) part) (lacks l (t ∷ ts) parts) h))
  where
    both : (a b : Bool) → (a ≡ true) ⊎ (b ≡ true) → (a || b) ≡ true
    both true b e = refl
    both false true e = refl
    both false false e = ⊎_elim (λ (x : false ≡ true). x) (λ (x : false ≡ true). x) e

lacks_after : (l : Layout) (n : ℕ) (ts : List Token) (parts : List Part) → lacks l ts parts ≡ true → lacks l (drop n ts) parts ≡ true
lacks_after l zero ts parts h = h
lacks_after l (suc n) [] parts h = h
lacks_after l (suc n) (t ∷ ts) parts h = lacks_after l n ts parts (lacks_one l t ts parts h)

-- no way for any length is no way
none_flat : (f : ℕ → List (List ℕ)) (ns : List ℕ) → ((n : ℕ) → f n ≡ []) → flat_map (λ n. map (λ ks. n ∷ ks) (f n)) ns ≡ []
none_flat f [] h = refl
none_flat f (n ∷ ns) h =
    ap (λ s. map (λ ks. n ∷ ks) s ++ flat_map (λ n. map (λ ks. n ∷ ks) (f n)) ns) (h n) ∙ none_flat f ns h

none_cond : (b : Bool) (xs : List (List ℕ)) → (b ≡ false) ⊎ (xs ≡ []) → cond b xs [] ≡ []
none_cond false xs h = refl
none_cond true xs h = ⊎_elim (λ (x : true ≡ false). absurd (cc)) (λ (x : xs ≡ []). x) h

pub no_cuts : (l : Layout) (parts : List Part) (ts : List Token) → lacks l ts parts ≡ true → cuts l parts ts ≡ []
no_cuts l [] ts h = absurd (cc)
no_cuts l (Word w ∷ parts) [] h = refl
no_cuts l (Word w ∷ parts) (t ∷ ts) h =
    none_cond (is_this_word l w t) (cuts l parts ts)
    (⊎_elim
    (λ (m : is_missed l (t ∷ ts) (Word w) ≡ true). inl ((none_after (is_this_word l w) t ts m).0))
    (λ (r : lacks l (t ∷ ts) parts ≡ true). inr (no_cuts l parts ts (lacks_one l t ts parts r)))
    (or_cases (is_missed l (t ∷ ts) (Word w)) (lacks l (t ∷ ts) parts) h))
no_cuts l (Slot s ∷ parts) ts h =
    none_flat (λ n. cuts l parts (drop n ts)) (phrase_lengths l ts) (λ n. no_cuts l parts (drop n ts) (lacks_after l n ts parts h))

none_marked : (o : Option ℕ) (f : ℕ → List (List ℕ)) → ((n : ℕ) → f n ≡ []) → ◌≡◌ {A = List (List ℕ)} (elim o [
  | Some n ↦ map (λ ns. n ∷ ns) (f n)
  | None ↦ []
]) []
none_marked (Some n) f e = ap (map (λ ns. n ∷ ns)) (e n)
none_marked None f e = refl

pub no_marked_cuts : (l : Layout) (parts : List Part) (ts : List Token) → lacks l ts parts ≡ true → marked_cuts l parts ts ≡ []
no_marked_cuts l [] ts h = absurd (cc)
no_marked_cuts l (Word w ∷ parts) [] h = refl
no_marked_cuts l (Word w ∷ parts) (t ∷ ts) h =
    none_cond (is_this_word l w t) (marked_cuts l parts ts)
    (⊎_elim
    (λ (m : is_missed l (t ∷ ts) (Word w) ≡ true). inl ((none_after (is_this_word l w) t ts m).0))
    (λ (r : lacks l (t ∷ ts) parts ≡ true). inr (no_marked_cuts l parts ts (lacks_one l t ts parts r)))
    (or_cases (is_missed l (t ∷ ts) (Word w)) (lacks l (t ∷ ts) parts) h))
no_marked_cuts l (Slot s ∷ parts) ts h = none_marked (marked_length l ts) (λ n. marked_cuts l parts (drop (n + 2) ts)) (λ n. no_marked_cuts l parts (drop (n + 2) ts) (lacks_after l (n + 2) ts parts h))

-- A template that lacks a word reads the tokens in no way.
pub no_ways : (l : Layout) (parts : List Part) (ts : List Token) → lacks l ts parts ≡ true → ways l parts ts ≡ []
no_ways l parts ts h = cond_both (is_marked ts) (marked_cuts l parts ts) (cuts l parts ts) (λ x. x ≡ []) (λ e. no_marked_cuts l parts ts h) (λ e. no_cuts l parts ts h)

-- ---- templates that are passed over

-- the readings by the templates below a number, where those from a lesser one on lack a word
pub passed_over : (us : List Template) (l : Layout) (ts : List Token) (n m : ℕ) → n + m ≤ 20 + length us → ((p : ℕ) → n ≤ p → p < n + m → lacks_at us l ts p ≡ true) → readings_before us l ts (n + m) ≡ readings_before us l ts n
passed_over us l ts n zero high h = let e : n + 0 ≡ n = omega arith in ap (readings_before us l ts) e
passed_over us l ts n (suc m) high h =
    let size = table_length us in
    let k = n + m in
    let t = get_or (table_of us) k (template []) in
    let e : n + suc m ≡ k + 1 = omega arith in
    let there : slice_get (table_of us) k ≡ Some t = slice_get-get_or (table_of us) k (template []) (omega (arith, size)) in
    let none : ways l t.parts ts ≡ [] = no_ways l t.parts ts (h k (omega arith) (omega arith)) in
    ap (readings_before us l ts) e
    ∙ before_more us l ts k t (in_use us k) there refl
    ∙ ap (λ w. readings_before us l ts k ++ cond (in_use us k) (readings_by k w) []) none
    ∙ ap (λ w. readings_before us l ts k ++ w) (empty (in_use us k))
    ∙ append-nil (readings_before us l ts k)
    ∙ passed_over us l ts n m (omega arith) (λ p low up. h p low (omega arith))
  where
    empty : (b : Bool) → ◌≡◌ {A = List Reading} (cond b [] []) []
    empty true = refl
    empty false = refl

-- the best so far, with the templates up to one that is looked at passed over
pub best_passed : (us : List Template) (l : Layout) (ts : List Token) (n m : ℕ) (found : Found) → n ≤ m → m ≤ 20 + length us → ((p : ℕ) → n ≤ p → p < m → lacks_at us l ts p ≡ true) → IsBestOf us (readings_before us l ts n) found → IsBestOf us (readings_before us l ts m) found
best_passed us l ts n m found low high h best =
    let e : n + (m - n) ≡ m = omega arith in
    let P : List Reading → Type 0 = λ rs. IsBestOf us rs found in
    subst P (sym (ap (readings_before us l ts) (sym e) ∙ passed_over us l ts n (m - n) (omega arith) (λ p lo up. h p lo (omega arith)))) best

-- ---- candidates that are left

pub left_more : (us : List Template) (l : Layout) (ts : List Token) (xs : List ℕ) (i next after x : ℕ) → i < length xs → x ≡ get_or xs i 0 → next ≤ after → x < after → AreLeft us l ts xs i next → AreLeft us l ts xs (i + 1) after
left_more us l ts xs i next after x some at up past h p low high = ⊎_elim
    (λ (s : StandsFrom xs i p). ⊎_elim
    (λ (here : s.place < i + 1).
    let from = s.low in
    let same : s.place ≡ i = omega (arith, from) in
    let e = s.is in
    let f = ap (λ k. get_or xs k 0) same in
    absurd (omega (arith, at, e, f, low, past)))
    (λ (later : i + 1 ≤ s.place). inl (record { place = s.place; low = later; high = s.high; is = s.is }))
    (cases_lt s.place (i + 1)))
    (λ (m : lacks_at us l ts p ≡ true). inr m)
    (h p (omega (arith, up, low)) high)

-- those below the next candidate lack a word
pub left_lack : (us : List Template) (l : Layout) (ts : List Token) (xs : List ℕ) (i next x : ℕ) → IsAscending xs → i < length xs → x ≡ get_or xs i 0 → x < 20 + length us → AreLeft us l ts xs i next → (p : ℕ) → next ≤ p → p < x → lacks_at us l ts p ≡ true
left_lack us l ts xs i next x order some at high h p low below = ⊎_elim
    (λ (s : StandsFrom xs i p).
    let up = order i s.place s.low s.high in
    let e = s.is in
    absurd (omega (arith, up, e, at, below)))
    (λ (m : lacks_at us l ts p ≡ true). m)
    (h p low (omega (arith, below, high)))

-- where no candidate is left, the others lack a word
pub none_left : (us : List Template) (l : Layout) (ts : List Token) (xs : List ℕ) (i next : ℕ) → length xs ≤ i → AreLeft us l ts xs i next → (p : ℕ) → next ≤ p → p < 20 + length us → lacks_at us l ts p ≡ true
none_left us l ts xs i next all h p low high = ⊎_elim
    (λ (s : StandsFrom xs i p). let from = s.low in let to = s.high in absurd (omega (arith, from, to, all)))
    (λ (m : lacks_at us l ts p ≡ true). m)
    (h p low high)
