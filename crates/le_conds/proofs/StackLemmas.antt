-- Members as the code keeps them.
use Rattle.std.proofs.Common.{◌≡◌, ◌<◌, ◌≤◌, ◌+◌, ◌-◌, ℕ, zero, suc, Bool, true, false, not, ◌&&◌, cond, ltb, List, [], ◌∷◌, ◌++◌, length, drop, flat_map, max, Option, refl, sym, ap, ◌∙◌, arith, length-append}
use Rattle.std.proofs.Math.ListN.{get_or}
use Rattle.std.proofs.Math.Seq.{get_or-append_seam}
use Rattle.std.proofs.lemmas.List.{get_or_append_left, drop_all, drop_more}
use Rattle.le_conds.specs.declared.blocks.Waiting.{Waiting}
use Rattle.le_conds.specs.Members.{Member, is_marker, belongs, inside, before_marker, deepest_of}
use Rattle.le_layout.specs.declared.fault.Fault.{Fault}
use Rattle.le_layout.specs.Fault.{sooner}
use Rattle.le_conds.specs.Faults.{least_onto}
use Rattle.le_conds.specs.Stack.{waiting, stacked}

pub length_stacked : (ms : List Member) → length (stacked ms) ≡ length ms
length_stacked [] = refl
length_stacked (m ∷ ms) = length-append (stacked ms) (waiting m ∷ []) ∙ omega (arith, length_stacked ms)

-- the member at a place from the front is kept at that place from the back
pub record AtPlace (ms : List Member) (k : ℕ) (d : Waiting) : Type 0 where
  pub m : Member
  pub rest : List Member
  pub following : drop k ms ≡ m ∷ rest
  pub next : drop (k + 1) ms ≡ rest
  pub kept : get_or (stacked ms) (length ms - 1 - k) d ≡ waiting m

drop_next : (m : Member) (ms : List Member) (k : ℕ) → drop (suc k + 1) (m ∷ ms) ≡ drop (k + 1) ms
drop_next m ms k = let e : suc k + 1 ≡ suc (k + 1) = omega arith in ap (λ n. drop n (m ∷ ms)) e

same_place : (m : Member) (ms : List Member) (k : ℕ) (d : Waiting) → get_or (stacked ms ++ waiting m ∷ []) (length (m ∷ ms) - 1 - suc k) d ≡ get_or (stacked ms ++ waiting m ∷ []) (length ms - 1 - k) d
same_place m ms k d = let e : length (m ∷ ms) - 1 - suc k ≡ length ms - 1 - k = omega arith in ap (λ i. get_or (stacked ms ++ waiting m ∷ []) i d) e

last_place : (m : Member) (ms : List Member) (d : Waiting) → get_or (stacked ms ++ waiting m ∷ []) (length (m ∷ ms) - 1 - 0) d ≡ get_or (stacked ms ++ waiting m ∷ []) (length (stacked ms)) d
last_place m ms d = let e : length (m ∷ ms) - 1 - 0 ≡ length (stacked ms) = omega (arith, length_stacked ms) in ap (λ i. get_or (stacked ms ++ waiting m ∷ []) i d) e

pub at_place : (ms : List Member) (k : ℕ) (d : Waiting) → k < length ms → AtPlace ms k d
at_place [] k d low = absurd (nothing_below low)
  where
    nothing_below : k < 0 → ⊥
    nothing_below h = omega arith
at_place (m ∷ ms) zero d low = record {
  m = m;
  rest = ms;
  following = refl;
  next = refl;
  kept = last_place m ms d ∙ get_or-append_seam (stacked ms) (waiting m) [] d;
}
at_place (m ∷ ms) (suc k) d low =
    let r = at_place ms k d (omega (arith, low)) in
    record {
      m = r.m;
      rest = r.rest;
      following = r.following;
      next = drop_next m ms k ∙ r.next;
      kept = same_place m ms k d ∙ get_or_append_left (stacked ms) (waiting m ∷ []) d (length ms - 1 - k) (omega (arith, low, length_stacked ms)) ∙ r.kept;
    }

-- whether what is kept belongs to a scope
abbrev pub belongs_kept : ℕ → Waiting → Bool
belongs_kept column w = not (is_marker w.item.opens) && ltb column w.item.column

tested : (column : ℕ) (ms : List Member) (items : List Waiting) (k : ℕ) (d : Waiting) (b : Bool) → items ≡ stacked ms → (p : AtPlace ms k d) → b ≡ belongs_kept column (get_or items (length items - 1 - k) d) → belongs column p.m ≡ b
tested column ms items k d b same p e =
    sym (e ∙ ap (belongs_kept column) (ap (λ xs. get_or xs (length xs - 1 - k) d) same ∙ ap (λ n. get_or (stacked ms) (n - 1 - k) d) (length_stacked ms) ∙ p.kept))

pub stops_here : (column : ℕ) (ms : List Member) (items : List Waiting) (k : ℕ) (d : Waiting) → items ≡ stacked ms → k < length items → false ≡ belongs_kept column (get_or items (length items - 1 - k) d) → length (inside column ms) ≡ k + length (inside column (drop k ms)) → k ≡ length (inside column ms)
stops_here column ms items k d same low e all =
    let p = at_place ms k d (omega (arith, low, ap length same, length_stacked ms)) in
    let none_more : length (inside column (drop k ms)) ≡ 0 = ap (λ xs. length (inside column xs)) p.following ∙ ap (λ b. length (cond b (p.m ∷ inside column p.rest) [])) (tested column ms items k d false same p e) in
    omega (arith, all, none_more)

pub goes_on : (column : ℕ) (ms : List Member) (items : List Waiting) (k : ℕ) (d : Waiting) → items ≡ stacked ms → k < length items → true ≡ belongs_kept column (get_or items (length items - 1 - k) d) → length (inside column ms) ≡ k + length (inside column (drop k ms)) → length (inside column ms) ≡ k + 1 + length (inside column (drop (k + 1) ms))
goes_on column ms items k d same low e all =
    let p = at_place ms k d (omega (arith, low, ap length same, length_stacked ms)) in
    let one_more : length (inside column (drop k ms)) ≡ length (p.m ∷ inside column p.rest) = ap (λ xs. length (inside column xs)) p.following ∙ ap (λ b. length (cond b (p.m ∷ inside column p.rest) [])) (tested column ms items k d true same p e) in
    let left : length (inside column (drop (k + 1) ms)) ≡ length (inside column p.rest) = ap (λ xs. length (inside column xs)) p.next in
    omega (arith, all, one_more, left)

pub all_belong : (column : ℕ) (ms : List Member) (items : List Waiting) (k : ℕ) → items ≡ stacked ms → length items ≤ k → length (inside column ms) ≡ k + length (inside column (drop k ms)) → k ≤ length items → length items ≡ length (inside column ms)
all_belong column ms items k same high all low =
    let nothing_left : length (inside column (drop k ms)) ≡ 0 = ap (λ xs. length (inside column xs)) (drop_all k ms (omega (arith, high, ap length same, length_stacked ms))) in
    omega (arith, all, nothing_left)

-- the same up to the first marker
marker_tested : (ms : List Member) (items : List Waiting) (k : ℕ) (d : Waiting) (b : Bool) → items ≡ stacked ms → (p : AtPlace ms k d) → b ≡ is_marker (get_or items (length items - 1 - k) d).item.opens → is_marker p.m.item.opens ≡ b
marker_tested ms items k d b same p e =
    sym (e ∙ ap (λ (w : Waiting). is_marker w.item.opens) (ap (λ xs. get_or xs (length xs - 1 - k) d) same ∙ ap (λ n. get_or (stacked ms) (n - 1 - k) d) (length_stacked ms) ∙ p.kept))

pub stops_before : (ms : List Member) (items : List Waiting) (k : ℕ) (d : Waiting) → items ≡ stacked ms → k < length items → true ≡ is_marker (get_or items (length items - 1 - k) d).item.opens → length (before_marker ms) ≡ k + length (before_marker (drop k ms)) → k ≡ length (before_marker ms)
stops_before ms items k d same low e all =
    let p = at_place ms k d (omega (arith, low, ap length same, length_stacked ms)) in
    let none_more : length (before_marker (drop k ms)) ≡ 0 = ap (λ xs. length (before_marker xs)) p.following ∙ ap (λ b. length (cond b [] (p.m ∷ before_marker p.rest))) (marker_tested ms items k d true same p e) in
    omega (arith, all, none_more)

pub goes_before : (ms : List Member) (items : List Waiting) (k : ℕ) (d : Waiting) → items ≡ stacked ms → k < length items → false ≡ is_marker (get_or items (length items - 1 - k) d).item.opens → length (before_marker ms) ≡ k + length (before_marker (drop k ms)) → length (before_marker ms) ≡ k + 1 + length (before_marker (drop (k + 1) ms))
goes_before ms items k d same low e all =
    let p = at_place ms k d (omega (arith, low, ap length same, length_stacked ms)) in
    let one_more : length (before_marker (drop k ms)) ≡ length (p.m ∷ before_marker p.rest) = ap (λ xs. length (before_marker xs)) p.following ∙ ap (λ b. length (cond b [] (p.m ∷ before_marker p.rest))) (marker_tested ms items k d false same p e) in
    let left : length (before_marker (drop (k + 1) ms)) ≡ length (before_marker p.rest) = ap (λ xs. length (before_marker xs)) p.next in
    omega (arith, all, one_more, left)

pub all_before : (ms : List Member) (items : List Waiting) (k : ℕ) → items ≡ stacked ms → length items ≤ k → length (before_marker ms) ≡ k + length (before_marker (drop k ms)) → k ≤ length items → length items ≡ length (before_marker ms)
all_before ms items k same high all low =
    let nothing_left : length (before_marker (drop k ms)) ≡ 0 = ap (λ xs. length (before_marker xs)) (drop_all k ms (omega (arith, high, ap length same, length_stacked ms))) in
    omega (arith, all, nothing_left)

-- the member that is kept at a place, and those that follow it
pub record AtIndex (ms : List Member) (k : ℕ) (d : Waiting) : Type 0 where
  pub m : Member
  pub rest : List Member
  pub here : drop (length ms - (k + 1)) ms ≡ m ∷ rest
  pub after : drop (length ms - k) ms ≡ rest
  pub kept : get_or (stacked ms) k d ≡ waiting m

pub at_index : (ms : List Member) (k : ℕ) (d : Waiting) → k < length ms → AtIndex ms k d
at_index ms k d low =
    let p = at_place ms (length ms - 1 - k) d (omega arith) in
    let i : length ms - (k + 1) ≡ length ms - 1 - k = omega arith in
    let j : length ms - k ≡ length ms - 1 - k + 1 = omega arith in
    let e : k ≡ length ms - 1 - (length ms - 1 - k) = omega arith in
    record {
      m = p.m;
      rest = p.rest;
      here = ap (λ n. drop n ms) i ∙ p.following;
      after = ap (λ n. drop n ms) j ∙ p.next;
      kept = ap (λ n. get_or (stacked ms) n d) e ∙ p.kept;
    }

-- the same where another list is that of the members that are kept
pub index_in : (ms : List Member) (items : List Waiting) (k : ℕ) (d : Waiting) → items ≡ stacked ms → k < length items → AtIndex ms k d
index_in ms items k d same low = at_index ms k d (omega (arith, low, ap length same, length_stacked ms))

pub least-append : (fs gs : List Fault) (least : Option Fault) → least_onto (fs ++ gs) least ≡ least_onto fs (least_onto gs least)
least-append [] gs least = refl
least-append (f ∷ fs) gs least = ap (sooner f) (least-append fs gs least)

-- the fault that decides among those of members, one member before them
pub fold_step : (f : Member → List Fault) (ms : List Member) (items : List Waiting) (k : ℕ) (d : Waiting) (least found new : Option Fault) → items ≡ stacked ms → k < length items → found ≡ least_onto (flat_map f (drop (length ms - k) ms)) least → ((m : Member) → m.item ≡ (get_or items k d).item → new ≡ least_onto (f m) found) → new ≡ least_onto (flat_map f (drop (length ms - (k + 1)) ms)) least
fold_step f ms items k d least found new same low so_far step =
    let p = index_in ms items k d same low in
    step p.m (sym (ap (λ (w : Waiting). w.item) (ap (λ xs. get_or xs k d) same ∙ p.kept)))
    ∙ ap (least_onto (f p.m)) (so_far ∙ ap (λ xs. least_onto (flat_map f xs) least) p.after)
    ∙ sym (ap (λ xs. least_onto (flat_map f xs) least) p.here ∙ least-append (f p.m) (flat_map f p.rest) least)

pub fold_none : (f : Member → List Fault) (ms : List Member) (least : Option Fault) → least ≡ least_onto (flat_map f (drop (length ms - 0) ms)) least
fold_none f ms least = sym (ap (λ xs. least_onto (flat_map f xs) least) (drop_all (length ms - 0) ms (omega arith)))

pub fold_all : (f : Member → List Fault) (ms : List Member) (items : List Waiting) (k : ℕ) (least found : Option Fault) → items ≡ stacked ms → length items ≤ k → found ≡ least_onto (flat_map f (drop (length ms - k) ms)) least → found ≡ least_onto (flat_map f ms) least
fold_all f ms items k least found same high so_far =
    let none : length ms - k ≡ 0 = omega (arith, high, ap length same, length_stacked ms) in
    so_far ∙ ap (λ n. least_onto (flat_map f (drop n ms)) least) none

-- the greatest column, one member before others
pub deepest_step : (ms : List Member) (items : List Waiting) (k : ℕ) (d : Waiting) (found new : ℕ) → items ≡ stacked ms → k < length items → found ≡ deepest_of (drop (length ms - k) ms) → new ≡ max (get_or items k d).deepest found → new ≡ deepest_of (drop (length ms - (k + 1)) ms)
deepest_step ms items k d found new same low so_far step =
    let p = index_in ms items k d same low in
    step
    ∙ ap (λ (w : Waiting). max w.deepest found) (ap (λ xs. get_or xs k d) same ∙ p.kept)
    ∙ ap (max p.m.deepest) (so_far ∙ ap deepest_of p.after)
    ∙ sym (ap deepest_of p.here)

pub deepest_all : (ms : List Member) (items : List Waiting) (k : ℕ) (found : ℕ) → items ≡ stacked ms → length items ≤ k → found ≡ deepest_of (drop (length ms - k) ms) → found ≡ deepest_of ms
deepest_all ms items k found same high so_far =
    let none : length ms - k ≡ 0 = omega (arith, high, ap length same, length_stacked ms) in
    so_far ∙ ap (λ n. deepest_of (drop n ms)) none

pub deepest_none : (ms : List Member) → 0 ≡ deepest_of (drop (length ms - 0) ms)
deepest_none ms = sym (ap deepest_of (drop_all (length ms - 0) ms (omega arith)))

-- what is left of a list from its end, one more
pub drop_back : {X : Type 0} (xs : List X) (k : ℕ) (d : X) → k < length xs → drop (length xs - (k + 1)) xs ≡ get_or xs (length xs - 1 - k) d ∷ drop (length xs - k) xs
drop_back xs k d low =
    let i : length xs - (k + 1) ≡ length xs - 1 - k = omega arith in
    let j : length xs - 1 - k + 1 ≡ length xs - k = omega arith in
    ap (λ n. drop n xs) i ∙ drop_more xs (length xs - 1 - k) d (omega arith) ∙ ap (λ n. get_or xs (length xs - 1 - k) d ∷ drop n xs) j

pub drop_none : {X : Type 0} (xs : List X) (n : ℕ) → length xs ≤ n → drop (length xs - n) xs ≡ xs
drop_none xs n high = let none : length xs - n ≡ 0 = omega (arith, high) in ap (λ i. drop i xs) none
