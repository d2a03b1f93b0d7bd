-- The items, one token further, and that they lose nothing.
use Rattle.std.proofs.Common.{◌≡◌, ℕ, zero, suc, ◌+◌, ◌-◌, ◌<◌, ◌≤◌, List, [], ◌∷◌, ◌++◌, length, take, drop, slice_range, flat_map, Option, None, Some, Bool, true, false, cond, ◌&&◌, ◌||◌, codes, refl, sym, ap, ◌∙◌, arith, append_assoc, drop-drop, ⊎_elim, subst}
use Rattle.std.specs.List.{All}
use Rattle.std.proofs.lemmas.Bool.{cases_lt, true≢false}
use Rattle.std.proofs.lemmas.List.Elements.{All-nil, All-cons}
use Rattle.std.proofs.lemmas.List.{append-nil}
use Rattle.std.proofs.Math.Seq.{take-add}
use Rattle.le_layout.specs.declared.token.Token.{Token}
use Rattle.le_layout.specs.declared.layout.Layout.{Layout}
use Rattle.le_layout.specs.Words.{tokens_of, has_word}
use Rattle.le_conds.specs.declared.item.Lead.{Lead}
use Rattle.le_conds.specs.declared.item.Lead.TheVariants.{Plain, And, Or, Marker}
use Rattle.le_conds.specs.declared.item.Item.{Item}
use Rattle.le_conds.specs.Bounds.{IsItemOver, AreItemsOver}
use Rattle.le_conds.specs.Openers.{is_first, opens_marker}
use Rattle.le_conds.specs.Items.{span, content_from, opened, closed, is_bare, lead_of_line, begins_item, BeginsAt, lead_at, open_after, ended_before, items_from, items_of}

from_suc : (l : Layout) (to : ℕ) (item : Item) (k n m : ℕ) → n ≡ suc m → items_from l to item k n ≡ ended_before item k (lead_at l to item k) ++ items_from l to (open_after item k (lead_at l to item k)) (k + 1) m
unfolding items_from
from_suc l to item k n m e = ap (items_from l to item k) e

pub items_step : (l : Layout) (to : ℕ) (item : Item) (k : ℕ) → k < to → items_from l to item k (to - k) ≡ ended_before item k (lead_at l to item k) ++ items_from l to (open_after item k (lead_at l to item k)) (k + 1) (to - (k + 1))
items_step l to item k low = from_suc l to item k (to - k) (to - (k + 1)) (omega arith)

-- a token that begins no item
pub items_same : (l : Layout) (to : ℕ) (item : Item) (k : ℕ) → k < to → lead_at l to item k ≡ None → items_from l to item k (to - k) ≡ items_from l to item (k + 1) (to - (k + 1))
items_same l to item k low e = items_step l to item k low ∙ ap (λ lead. ended_before item k lead ++ items_from l to (open_after item k lead) (k + 1) (to - (k + 1))) e

-- a token that begins one
pub items_next : (l : Layout) (to : ℕ) (item : Item) (k : ℕ) (lead : Lead) → k < to → lead_at l to item k ≡ Some lead → items_from l to item k (to - k) ≡ closed item k ∷ items_from l to (opened lead k) (k + 1) (to - (k + 1))
items_next l to item k lead low e = items_step l to item k low ∙ ap (λ w. ended_before item k w ++ items_from l to (open_after item k w) (k + 1) (to - (k + 1))) e

pub items_end : (l : Layout) (to : ℕ) (item : Item) (k n : ℕ) → n ≡ 0 → items_from l to item k n ≡ closed item to ∷ []
unfolding items_from
items_end l to item k n e = ap (items_from l to item k) e

pub content_low : (lead : Lead) (k : ℕ) → k ≤ content_from lead k
content_low Plain k = omega arith
content_low And k = omega arith
content_low Or k = omega arith
content_low Marker k = omega arith

pub content_high : (lead : Lead) (k : ℕ) → content_from lead k ≤ k + 1
content_high Plain k = omega arith
content_high And k = omega arith
content_high Or k = omega arith
content_high Marker k = omega arith

-- what was found, and one more item
pub one_more : (l : Layout) (to : ℕ) (item next : Item) (k : ℕ) (lead : Lead) (xs ys all : List Item) → k < to → lead_at l to item k ≡ Some lead → next ≡ opened lead k → ys ≡ xs ++ closed item k ∷ [] → xs ++ items_from l to item k (to - k) ≡ all → ys ++ items_from l to next (k + 1) (to - (k + 1)) ≡ all
one_more l to item next k lead xs ys all low e n y h =
    let rest = items_from l to (opened lead k) (k + 1) (to - (k + 1)) in
    ap (λ i. ys ++ items_from l to i (k + 1) (to - (k + 1))) n
    ∙ ap (λ zs. zs ++ rest) y
    ∙ append_assoc xs (closed item k ∷ []) rest
    ∙ ap (λ zs. xs ++ zs) (sym (items_next l to item k lead low e))
    ∙ h

-- what was found, and no item more
pub same_items : (l : Layout) (to : ℕ) (item next : Item) (k : ℕ) (xs ys all : List Item) → k < to → lead_at l to item k ≡ None → next ≡ item → ys ≡ xs → xs ++ items_from l to item k (to - k) ≡ all → ys ++ items_from l to next (k + 1) (to - (k + 1)) ≡ all
same_items l to item next k xs ys all low e n y h =
    ap (λ i. ys ++ items_from l to i (k + 1) (to - (k + 1))) n
    ∙ ap (λ zs. zs ++ items_from l to item (k + 1) (to - (k + 1))) y
    ∙ ap (λ zs. xs ++ zs) (sym (items_same l to item k low e))
    ∙ h

-- what was found, and the last item
pub last_one : (l : Layout) (to : ℕ) (item : Item) (k : ℕ) (xs ys all : List Item) → to ≤ k → ys ≡ xs ++ closed item to ∷ [] → xs ++ items_from l to item k (to - k) ≡ all → ys ≡ all
last_one l to item k xs ys all high y h = y ∙ ap (λ zs. xs ++ zs) (sym (items_end l to item k (to - k) (omega arith))) ∙ h

-- two spans that follow each other are one
joined : {X : Type 0} (xs : List X) (a b c : ℕ) → a ≤ b → b ≤ c → slice_range xs a b ++ slice_range xs b c ≡ slice_range xs a c
joined xs a b c low high =
    let whole : c - a ≡ (b - a) + (c - b) = omega arith in
    let place : a + (b - a) ≡ b = omega arith in
    sym (
    ap (λ n. take n (drop a xs)) whole
    ∙ take-add (b - a) (c - b) (drop a xs)
    ∙ ap (λ ys. take (b - a) (drop a xs) ++ take (c - b) ys) (drop-drop (b - a) a xs ∙ ap (λ i. drop i xs) place)
    )

-- all tokens of an item, its connective too
abbrev pub all_of : Layout → Item → List Token
all_of l item = tokens_of l (span item.at item.content.to)

whole_step : (l : Layout) (to : ℕ) (item : Item) (k n : ℕ) (lead : Option Lead) → item.at ≤ k → k ≤ to → ((next : Item) → next.at ≤ k + 1 → flat_map (all_of l) (items_from l to next (k + 1) n) ≡ slice_range l.tokens next.at to) → flat_map (all_of l) (ended_before item k lead ++ items_from l to (open_after item k lead) (k + 1) n) ≡ slice_range l.tokens item.at to
whole_step l to item k n None begun low rest = rest item (omega arith)
whole_step l to item k n (Some lead) begun low rest =
    ap (λ ts. slice_range l.tokens item.at k ++ ts) (rest (opened lead k) (omega arith)) ∙ joined l.tokens item.at k to begun low

whole_from : (l : Layout) (to : ℕ) (n : ℕ) (item : Item) (k : ℕ) → item.at ≤ k → k + n ≡ to → flat_map (all_of l) (items_from l to item k n) ≡ slice_range l.tokens item.at to
unfolding items_from
whole_from l to zero item k begun e = append-nil (slice_range l.tokens item.at to)
whole_from l to (suc n) item k begun e =
    whole_step l to item k n (lead_at l to item k) begun (omega arith) (λ (next : Item) (h : next.at ≤ k + 1). whole_from l to n next (k + 1) h (omega arith))

pub whole : (l : Layout) (from to : ℕ) → from ≤ to → flat_map (all_of l) (items_of l from to) ≡ tokens_of l (span from to)
whole l from to h = whole_from l to (to - from) (opened Plain from) from (omega arith) (omega arith)

-- ---- what holds of each item

all_step : (l : Layout) (to : ℕ) (Open : Item → ℕ → Type 0) (P : Item → Type 0) → ((item : Item) (k : ℕ) → Open item k → k ≤ to → P (closed item k)) → ((item : Item) (k : ℕ) → Open item k → k < to → Open item (k + 1)) → ((lead : Lead) (k : ℕ) → k < to → Open (opened lead k) (k + 1)) → (n k : ℕ) (item : Item) (lead : Option Lead) → Open item k → k < to → ((next : Item) → Open next (k + 1) → All P (items_from l to next (k + 1) n)) → All P (ended_before item k lead ++ items_from l to (open_after item k lead) (k + 1) n)
all_step l to Open P ends goes begins n k item None begun low rest = rest item (goes item k begun low)
all_step l to Open P ends goes begins n k item (Some lead) begun low rest =
    All-cons P (closed item k) _ (ends item k begun (omega arith)) (rest (opened lead k) (begins lead k low))

all_from : (l : Layout) (to : ℕ) (Open : Item → ℕ → Type 0) (P : Item → Type 0) → ((item : Item) (k : ℕ) → Open item k → k ≤ to → P (closed item k)) → ((item : Item) (k : ℕ) → Open item k → k < to → Open item (k + 1)) → ((lead : Lead) (k : ℕ) → k < to → Open (opened lead k) (k + 1)) → (n k : ℕ) (item : Item) → Open item k → k + n ≡ to → All P (items_from l to item k n)
unfolding items_from
all_from l to Open P ends goes begins zero k item begun e =
    let here : k ≡ to = omega arith in
    All-cons P (closed item to) [] (subst (λ (i : ℕ). P (closed item i)) here (ends item k begun (omega arith))) (All-nil P)
all_from l to Open P ends goes begins (suc n) k item begun e =
    all_step l to Open P ends goes begins n k item (lead_at l to item k) begun (omega arith) (λ next o. all_from l to Open P ends goes begins n (k + 1) next o (omega arith))

over_from : (l : Layout) (from to count : ℕ) → from ≤ to → to ≤ count → All (IsItemOver count) (items_of l from to)
over_from l from to count low high =
    all_from l to (λ item k. item.content.from ≤ k) (IsItemOver count)
    (λ item k begun h. record { ordered = begun; inside = omega arith })
    (λ item k begun h. omega arith)
    (λ lead k h. content_high lead k)
    (to - from) from (opened Plain from) (omega arith) (omega arith)

at_from : (l : Layout) (from to count : ℕ) → from < to → to ≤ count → All (λ item. item.at < count) (items_of l from to)
at_from l from to count low high =
    all_from l to (λ item k. item.at < to) (λ item. item.at < count)
    (λ item k begun h. omega arith)
    (λ item k begun h. begun)
    (λ lead k h. h)
    (to - from) from (opened Plain from) (omega arith) (omega arith)

pub items_over : (l : Layout) (from to count : ℕ) → from ≤ to → to ≤ count → AreItemsOver count (items_of l from to)
items_over l from to count low high = record {
  over = over_from l from to count low high;
  at = λ several. ⊎_elim
      (λ (some : from < to). at_from l from to count some high)
      (λ (none : to ≤ from). let one = ap length (items_end l to (opened Plain from) from (to - from) (omega arith)) in absurd (omega (arith, one, several)))
      (cases_lt from to);
}

-- ---- where items begin

-- the open item begins where it began
here_by : (l : Layout) (to n : ℕ) (item : Item) (k : ℕ) (lead : Option Lead) → BeginsAt item.at (items_from l to item (k + 1) n) → BeginsAt item.at (ended_before item k lead ++ items_from l to (open_after item k lead) (k + 1) n)
here_by l to n item k None rest = rest
here_by l to n item k (Some lead) rest = record { front = []; item = closed item k; back = items_from l to (opened lead k) (k + 1) n; same = refl; at = refl }

here : (l : Layout) (to n : ℕ) (item : Item) (k : ℕ) → BeginsAt item.at (items_from l to item k n)
unfolding items_from
here l to zero item k = record { front = []; item = closed item to; back = []; same = refl; at = refl }
here l to (suc n) item k = here_by l to n item k (lead_at l to item k) (here l to n item (k + 1))

later : (k : ℕ) (xs ys : List Item) → BeginsAt k ys → BeginsAt k (xs ++ ys)
later k xs ys b = record {
  front = xs ++ b.front;
  item = b.item;
  back = b.back;
  same = ap (λ zs. xs ++ zs) b.same ∙ sym (append_assoc xs b.front (b.item ∷ b.back));
  at = b.at;
}

lead_by : (first with_and with_or marked : Bool) (rest : Option Lead) → (first && (with_and || (with_or || marked))) ≡ true → (lead : Lead) × (cond first (cond with_and (Some And) (cond with_or (Some Or) (cond marked (Some Marker) rest))) None ≡ Some lead)
lead_by true true o m rest e = (And, refl)
lead_by true false true m rest e = (Or, refl)
lead_by true false false true rest e = (Marker, refl)
lead_by true false false false rest e = absurd (true≢false (sym e))
lead_by false a o m rest e = absurd (true≢false (sym e))

lead_here : (l : Layout) (to : ℕ) (item : Item) (k : ℕ) → begins_item l to k ≡ true → (lead : Lead) × (lead_at l to item k ≡ Some lead)
unfolding lead_at lead_of_line
lead_here l to item k e =
    lead_by (is_first l k) (has_word l k (codes "and")) (has_word l k (codes "or")) (opens_marker l k to) (cond (is_bare l item.lead item.content.from k) (Some Plain) None) e

cut_here : (l : Layout) (to n : ℕ) (item : Item) (k : ℕ) (lead : Lead) → lead_at l to item k ≡ Some lead → BeginsAt k (items_from l to item k (suc n))
unfolding items_from
cut_here l to n item k lead e =
    subst (λ (w : Option Lead). BeginsAt k (ended_before item k w ++ items_from l to (open_after item k w) (k + 1) n)) (sym e)
    (later k (closed item k ∷ []) (items_from l to (opened lead k) (k + 1) n) (here l to n (opened lead k) (k + 1)))

cut_from : (l : Layout) (to n : ℕ) (item : Item) (k m : ℕ) → k ≤ m → m < k + n → begins_item l to m ≡ true → BeginsAt m (items_from l to item k n)
unfolding items_from
cut_from l to zero item k m low high e = absurd (omega (arith, low, high))
cut_from l to (suc n) item k m low high e =
    ⊎_elim
    (λ (less : k < m). later m (ended_before item k (lead_at l to item k)) (items_from l to (open_after item k (lead_at l to item k)) (k + 1) n)
    (cut_from l to n (open_after item k (lead_at l to item k)) (k + 1) m (omega arith) (omega (arith, high)) e))
    (λ (equal : m ≤ k).
    let same : k ≡ m = omega (arith, low, equal) in
    let lead = lead_here l to item k (ap (begins_item l to) same ∙ e) in
    subst (λ (i : ℕ). BeginsAt i (items_from l to item k (suc n))) same (cut_here l to n item k lead.0 lead.1))
    (cases_lt k m)

pub cut : (l : Layout) (from to k : ℕ) → from ≤ k → k < to → begins_item l to k ≡ true → BeginsAt k (items_of l from to)
cut l from to k low high e = cut_from l to (to - from) (opened Plain from) from k low (omega (arith, low, high)) e
