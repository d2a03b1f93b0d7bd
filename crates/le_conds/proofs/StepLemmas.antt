-- What an item takes, makes and leaves, as the code keeps it.
use Rattle.std.proofs.Common.{◌≡◌, ◌<◌, ◌≤◌, ◌+◌, ◌-◌, ℕ, suc, Bool, true, false, cond, max, List, [], ◌∷◌, ◌++◌, length, map, take, drop, reverse, flat_map, Option, refl, sym, ap, ◌∙◌, arith, append_assoc, append-nil, length-append}
use Rattle.std.proofs.Math.ListN.{get_or}
use Rattle.std.proofs.Math.Seq.{get_or-append_seam, take-append_seam, drop-append_seam}
use Rattle.std.proofs.lemmas.List.{reverse-append, get_or_append_left}
use Rattle.le_layout.specs.declared.span.Span.{Span}
use Rattle.le_conds.specs.declared.cond.Cond.{Cond}
use Rattle.le_conds.specs.declared.cond.CondKind.{CondKind}
use Rattle.le_conds.specs.declared.entry.Opens.{Opens}
use Rattle.le_conds.specs.declared.entry.Opens.TheVariants.{Nothing, Negation, ForAll, Second, Stray, Gather}
use Rattle.le_conds.specs.declared.entry.Entry.{Entry}
use Rattle.le_layout.specs.declared.fault.Fault.{Fault}
use Rattle.le_conds.specs.declared.blocks.Waiting.{Waiting}
use Rattle.le_conds.specs.Trees.{Tree, sentence, all, some, negation, for_all, gather, at_of, flat}
use Rattle.le_conds.specs.Trees.{cond as node}
use Rattle.le_conds.specs.Members.{Member, is_marker, inside, following, before_marker, through_marker, from_marker, without_first, deepest_of, first_lead, with_opener}
use Rattle.le_conds.specs.Faults.{member_faults, level_faults, least_onto}
use Rattle.le_conds.specs.Stack.{waiting, stacked, turned, kind_by, joint, closing, marking, pushed, scope_of, only_first, marker_of, left_of, heads_of, opened_by}
use Rattle.le_conds.proofs.StackLaws.{inside_following, before_from}
use Rattle.le_conds.proofs.StackLemmas.{length_stacked}

pub stacked-append : (xs ys : List Member) → stacked (xs ++ ys) ≡ stacked ys ++ stacked xs
stacked-append [] ys = sym (append-nil (stacked ys))
stacked-append (m ∷ xs) ys = ap (λ zs. zs ++ waiting m ∷ []) (stacked-append xs ys) ∙ append_assoc (stacked ys) (stacked xs) (waiting m ∷ [])

-- the members that are kept last, and those before them
both_parts : (xs ys ms : List Member) (items : List Waiting) → items ≡ stacked ms → xs ++ ys ≡ ms → items ≡ stacked ys ++ stacked xs
both_parts xs ys ms items same split = same ∙ ap stacked (sym split) ∙ stacked-append xs ys

front_length : (xs ys ms : List Member) (items : List Waiting) (count : ℕ) → items ≡ stacked ms → xs ++ ys ≡ ms → count ≡ length xs → length items - count ≡ length (stacked ys)
front_length xs ys ms items count same split counted =
    omega (arith, counted, ap length (both_parts xs ys ms items same split), length-append (stacked ys) (stacked xs), length_stacked xs)

pub last_part : (xs ys ms : List Member) (items : List Waiting) (count : ℕ) → items ≡ stacked ms → xs ++ ys ≡ ms → count ≡ length xs → drop (length items - count) items ≡ stacked xs
last_part xs ys ms items count same split counted =
    ap (λ n. drop n items) (front_length xs ys ms items count same split counted)
    ∙ ap (drop (length (stacked ys))) (both_parts xs ys ms items same split)
    ∙ drop-append_seam (stacked ys) (stacked xs)

pub first_part : (xs ys ms : List Member) (items : List Waiting) (count : ℕ) → items ≡ stacked ms → xs ++ ys ≡ ms → count ≡ length xs → take (length items - count) items ≡ stacked ys
first_part xs ys ms items count same split counted =
    ap (λ n. take n items) (front_length xs ys ms items count same split counted)
    ∙ ap (take (length (stacked ys))) (both_parts xs ys ms items same split)
    ∙ take-append_seam (stacked ys) (stacked xs)

-- what an item takes and leaves is all that follows it
only_without : (ms : List Member) → only_first ms ++ without_first ms ≡ ms
only_without [] = refl
only_without (m ∷ ms) = refl

pub scope_split : (o : Opens) (e : Entry) (ms : List Member) → scope_of o e ms ++ (marker_of o ms ++ left_of o e ms) ≡ ms
scope_split Nothing e ms = inside_following e.column ms
scope_split Negation e ms = inside_following e.column ms
scope_split (Gather fold result name) e ms = inside_following e.column ms
scope_split (Second column) e ms = inside_following column ms
scope_split Stray e ms = inside_following e.column ms
scope_split ForAll e ms = ap (λ xs. before_marker ms ++ xs) (only_without (from_marker ms)) ∙ before_from ms

pub taken_split : (o : Opens) (e : Entry) (ms : List Member) → (scope_of o e ms ++ marker_of o ms) ++ left_of o e ms ≡ ms
taken_split o e ms = append_assoc (scope_of o e ms) (marker_of o ms) (left_of o e ms) ∙ scope_split o e ms

through_step : (m : Member) (ms : List Member) (b : Bool) → through_marker ms ≡ before_marker ms ++ only_first (from_marker ms) → cond b (m ∷ []) (m ∷ through_marker ms) ≡ cond b [] (m ∷ before_marker ms) ++ only_first (cond b (m ∷ ms) (from_marker ms))
through_step m ms true e = refl
through_step m ms false e = ap (λ xs. m ∷ xs) e

through_split : (ms : List Member) → through_marker ms ≡ before_marker ms ++ only_first (from_marker ms)
through_split [] = refl
through_split (m ∷ ms) = through_step m ms (is_marker m.item.opens) (through_split ms)

abbrev pub kept : Entry → List Member → Waiting
kept e ms = record { item = e; deepest = max e.column (deepest_of ms) }

-- an item in the place of what it takes
pub member_made : (o : Opens) (e : Entry) (ms : List Member) → stacked (with_opener o e ms) ≡ stacked (left_of o e ms) ++ kept e (scope_of o e ms ++ marker_of o ms) ∷ []
member_made Nothing e ms = ap (λ xs. stacked (following e.column ms) ++ kept e xs ∷ []) (sym (append-nil (inside e.column ms)))
member_made Negation e ms = ap (λ xs. stacked (following e.column ms) ++ kept e xs ∷ []) (sym (append-nil (inside e.column ms)))
member_made (Gather fold result name) e ms = ap (λ xs. stacked (following e.column ms) ++ kept e xs ∷ []) (sym (append-nil (inside e.column ms)))
member_made (Second column) e ms = ap (λ xs. stacked (following column ms) ++ kept e xs ∷ []) (sym (append-nil (inside column ms)))
member_made Stray e ms = ap (λ xs. stacked (following e.column ms) ++ kept e xs ∷ []) (sym (append-nil (inside e.column ms)))
member_made ForAll e ms = ap (λ xs. stacked (without_first (from_marker ms)) ++ kept e xs ∷ []) (through_split ms)

marking_first : (own : ℕ) (ms : List Member) → marking own ms ≡ marking own (only_first ms)
marking_first own [] = refl
marking_first own (m ∷ ms) = refl

-- what an item puts onto the conditions: what closes its block, and its own
pub pushed_made : (o : Opens) (e : Entry) (ms : List Member) → pushed o e ms ≡ closing (heads_of o e) (scope_of o e ms) ++ opened_by o e (marker_of o ms)
pushed_made Nothing e ms = sym (append-nil (closing (heads_of Nothing e) (inside e.column ms)))
pushed_made Negation e ms = refl
pushed_made (Gather fold result name) e ms = refl
pushed_made (Second column) e ms = sym (append-nil (closing (heads_of (Second column) e) (inside column ms)))
pushed_made Stray e ms = sym (append-nil (closing (heads_of Stray e) (inside e.column ms)))
pushed_made ForAll e ms = ap (λ xs. closing (heads_of ForAll e) (before_marker ms) ++ xs) (marking_first e.own (from_marker ms))

-- how many markers a `for all` takes
marker_none : (ms : List Member) → length ms ≡ 0 → 0 ≡ length (only_first ms)
marker_none [] e = refl
marker_none (m ∷ ms) e = absurd (omega (arith, e))

marker_one : (ms : List Member) → 0 < length ms → 1 ≡ length (only_first ms)
marker_one [] low = absurd (omega (arith, low))
marker_one (m ∷ ms) low = refl

from_length : (ms : List Member) (items : List Waiting) (count : ℕ) → items ≡ stacked ms → count ≡ length (before_marker ms) → length items ≡ count + length (from_marker ms)
from_length ms items count same counted =
    omega (arith, counted, ap length same, length_stacked ms, ap length (before_from ms), length-append (before_marker ms) (from_marker ms))

pub takes_marker : (o : Opens) (e : Entry) (ms : List Member) (items : List Waiting) (count : ℕ) → o ≡ ForAll → items ≡ stacked ms → count ≡ length (scope_of o e ms) → count < length items → 1 ≡ length (marker_of o ms)
takes_marker o e ms items count is same counted low =
    marker_one (from_marker ms) (omega (arith, low, from_length ms items count same (counted ∙ ap (λ x. length (scope_of x e ms)) is)))
    ∙ ap (λ x. length (marker_of x ms)) (sym is)

pub takes_none : (o : Opens) (e : Entry) (ms : List Member) (items : List Waiting) (count : ℕ) → o ≡ ForAll → items ≡ stacked ms → count ≡ length (scope_of o e ms) → length items ≤ count → 0 ≡ length (marker_of o ms)
takes_none o e ms items count is same counted high =
    marker_none (from_marker ms) (omega (arith, high, from_length ms items count same (counted ∙ ap (λ x. length (scope_of x e ms)) is)))
    ∙ ap (λ x. length (marker_of x ms)) (sym is)

-- the first and the second of some members, as they are kept
pub first_kept : (m : Member) (rest : List Member) (items : List Waiting) (d : Waiting) → items ≡ stacked (m ∷ rest) → get_or items (length items - 1) d ≡ waiting m
first_kept m rest items d same =
    let n : length items - 1 ≡ length (stacked rest) = omega (arith, ap length same, length-append (stacked rest) (waiting m ∷ [])) in
    ap (λ i. get_or items i d) n ∙ ap (λ xs. get_or xs (length (stacked rest)) d) same ∙ get_or-append_seam (stacked rest) (waiting m) [] d

pub second_kept : (m next : Member) (rest : List Member) (items : List Waiting) (d : Waiting) → items ≡ stacked (m ∷ next ∷ rest) → get_or items (length items - 2) d ≡ waiting next
second_kept m next rest items d same =
    let n : length items - 2 ≡ length (stacked rest) = omega (arith, ap length same, length-append (stacked (next ∷ rest)) (waiting m ∷ []), length-append (stacked rest) (waiting next ∷ [])) in
    ap (λ i. get_or items i d) n
    ∙ ap (λ xs. get_or xs (length (stacked rest)) d) same
    ∙ get_or_append_left (stacked rest ++ waiting next ∷ []) (waiting m ∷ []) d (length (stacked rest)) (omega (arith, length-append (stacked rest) (waiting next ∷ [])))
    ∙ get_or-append_seam (stacked rest) (waiting next) [] d

-- what joins a sentence with the members after it
pub joint_headed : (head : Span) (ms : List Member) (items : List Waiting) (d : Waiting) → items ≡ stacked ms → 0 < length items → node (kind_by (get_or items (length items - 1) d).item.lead (length items + 1)) head.from ∷ [] ≡ joint (first_lead ms) (sentence head ∷ map (λ (m : Member). m.tree) ms)
joint_headed head [] items d same low = absurd (omega (arith, low, ap length same))
joint_headed head (m ∷ ms) items d same low =
    let n : length items + 1 ≡ suc (suc (length (map (λ (x : Member). x.tree) ms))) = omega (arith, ap length same, length_stacked (m ∷ ms), length_map ms) in
    ap (λ (w : Waiting). node (kind_by w.item.lead (length items + 1)) head.from ∷ []) (first_kept m ms items d same)
    ∙ ap (λ i. node (kind_by m.item.lead i) head.from ∷ []) n
  where
    length_map : (xs : List Member) → length (map (λ (x : Member). x.tree) xs) ≡ length xs
    length_map [] = refl
    length_map (x ∷ xs) = ap suc (length_map xs)

-- what joins members, of which there are at least two
pub joint_plain : (ms rest : List Member) (items : List Waiting) (nodes : List Cond) (d : Waiting) (at : ℕ) → items ≡ stacked ms → 2 ≤ length items → nodes ≡ turned (ms ++ rest) → ((m : Member) (others : List Member) → nodes ≡ turned (m ∷ others) → at ≡ at_of m.tree) → node (kind_by (get_or items (length items - 2) d).item.lead (length items)) at ∷ [] ≡ joint (first_lead (without_first ms)) (map (λ (m : Member). m.tree) ms)
joint_plain [] rest items nodes d at same low turns place = absurd (omega (arith, low, ap length same))
joint_plain (m ∷ []) rest items nodes d at same low turns place = absurd (omega (arith, low, ap length same))
joint_plain (m ∷ next ∷ ms) rest items nodes d at same low turns place =
    let n : length items ≡ suc (suc (length (map (λ (x : Member). x.tree) ms))) = omega (arith, ap length same, length_stacked (m ∷ next ∷ ms), length_map ms) in
    ap (λ (w : Waiting). node (kind_by w.item.lead (length items)) at ∷ []) (second_kept m next ms items d same)
    ∙ ap (λ i. node (kind_by next.item.lead i) at ∷ []) n
    ∙ ap (λ i. node (kind_by next.item.lead (suc (suc (length (map (λ (x : Member). x.tree) ms))))) i ∷ []) (place m (next ∷ ms ++ rest) turns)
  where
    length_map : (xs : List Member) → length (map (λ (x : Member). x.tree) xs) ≡ length xs
    length_map [] = refl
    length_map (x ∷ xs) = ap suc (length_map xs)

-- the first condition of a tree stands where the tree does
record FirstNode (t : Tree) : Type 0 where
  kind : CondKind
  rest : List Cond
  same : flat t ≡ node kind (at_of t) ∷ rest

first_node : (t : Tree) → FirstNode t
first_node (sentence s) = record { kind = _; rest = _; same = refl }
first_node (all ts) = record { kind = _; rest = _; same = refl }
first_node (some ts) = record { kind = _; rest = _; same = refl }
first_node (negation at t) = record { kind = _; rest = _; same = refl }
first_node (for_all at t u) = record { kind = _; rest = _; same = refl }
first_node (gather at fold result name t) = record { kind = _; rest = _; same = refl }

pub turned_first : (m : Member) (rest : List Member) (nodes : List Cond) → nodes ≡ turned (m ∷ rest) → (front : List Cond) × ((kind : CondKind) × (nodes ≡ front ++ node kind (at_of m.tree) ∷ []))
turned_first m rest nodes same =
    let f = first_node m.tree in (
      turned rest ++ reverse f.rest,
      (
        f.kind,
        same ∙ ap (λ xs. turned rest ++ xs) (ap reverse f.same ∙ reverse-append (node f.kind (at_of m.tree) ∷ []) f.rest)
            ∙ sym (append_assoc (turned rest) (reverse f.rest) (node f.kind (at_of m.tree) ∷ [])),
      ),
    )

pub last_node : (m : Member) (rest : List Member) (nodes : List Cond) (d : Cond) → nodes ≡ turned (m ∷ rest) → (get_or nodes (length nodes - 1) d).at ≡ at_of m.tree
last_node m rest nodes d same =
    let f = turned_first m rest nodes same in
    let x = node f.1.0 (at_of m.tree) in
    let n : length nodes - 1 ≡ length f.0 = omega (arith, ap length f.1.1, length-append f.0 (x ∷ [])) in
    ap (λ (c : Cond). c.at) (ap (λ i. get_or nodes i d) n ∙ ap (λ xs. get_or xs (length f.0) d) f.1.1 ∙ get_or-append_seam f.0 x [] d)

pub no_node : (m : Member) (rest : List Member) (nodes : List Cond) → nodes ≡ turned (m ∷ rest) → length nodes ≡ 0 → 0 ≡ at_of m.tree
no_node m rest nodes same none =
    let f = turned_first m rest nodes same in
    absurd (omega (arith, none, ap length f.1.1, length-append f.0 (node f.1.0 (at_of m.tree) ∷ [])))

-- the fault of a block of members alone
pub level_found : (ms : List Member) (items : List Waiting) (d : Waiting) (least found : Option Fault) → items ≡ stacked ms → 2 ≤ length items → ((rest : List Member) → take (length items - 1) items ≡ stacked rest → found ≡ least_onto (flat_map (member_faults (get_or items (length items - 1) d).item.column (get_or items (length items - 2) d).item.lead) rest) least) → found ≡ least_onto (level_faults ms) least
level_found [] items d least found same low step = absurd (omega (arith, low, ap length same))
level_found (m ∷ []) items d least found same low step = absurd (omega (arith, low, ap length same))
level_found (m ∷ next ∷ ms) items d least found same low step =
    step (next ∷ ms) (first_part (m ∷ []) (next ∷ ms) (m ∷ next ∷ ms) items 1 same refl refl)
    ∙ ap (λ (w : Waiting). least_onto (flat_map (member_faults w.item.column (get_or items (length items - 2) d).item.lead) (next ∷ ms)) least) (first_kept m (next ∷ ms) items d same)
    ∙ ap (λ (w : Waiting). least_onto (flat_map (member_faults m.item.column w.item.lead) (next ∷ ms)) least) (second_kept m next ms items d same)
