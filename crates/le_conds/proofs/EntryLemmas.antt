-- What the blocks see of items: where it lies, and one item further.
use Rattle.std.proofs.Common.{◌≡◌, ℕ, suc, ◌+◌, ◌-◌, ◌<◌, ◌≤◌, ◌||◌, ◌&&◌, Bool, true, false, cond, nat_le, List, [], ◌∷◌, ◌++◌, length, drop, get_or, reverse, Option, None, Some, is_some, refl, sym, ap, ◌∙◌, arith, append_assoc}
use Rattle.std.specs.List.{All}
use Rattle.std.proofs.lemmas.List.{drop_more, drop_all}
use Rattle.std.proofs.lemmas.List.Elements.{All-nil, All-cons, All-head, All-tail}
use Rattle.le_layout.specs.declared.span.Span.{Span}
use Rattle.le_layout.specs.declared.layout.Layout.{Layout}
use Rattle.le_conds.specs.declared.item.Lead.TheVariants.{Plain}
use Rattle.le_conds.specs.declared.item.Item.{Item}
use Rattle.le_conds.specs.declared.entry.Opens.{Opens}
use Rattle.le_conds.specs.declared.entry.Opens.TheVariants.{Nothing, Negation, ForAll, Second, Stray, Gather}
use Rattle.le_conds.specs.declared.entry.Entry.{Entry}
use Rattle.le_conds.specs.Bounds.{IsItemOver, OpensOver, IsEntryOver}
use Rattle.le_conds.specs.Items.{span, is_marker}
use Rattle.le_conds.specs.Openers.{indent, opens_negation, opens_for_all, says_negation, says_for_all, each_end, gather_end}
use Rattle.le_conds.specs.Entries.{gather_by, second_of, opens_of, opener_end, unmarked, entry, further_entries, entries_of}
use Rattle.le_conds.specs.Faults.{begins_opener}
use Rattle.le_conds.specs.Stack.{entries_seen}
use Rattle.le_conds.proofs.GatherLemmas.{each_bounds, that_bounds, no_gather}

abbrev pub no_item : Item
no_item = record { lead = Plain; at = 0; content = span 0 0 }

-- no opener begins where there is no token
pub nothing_begins : (l : Layout) (s : Span) → s.to < s.from → false ≡ begins_opener l s
unfolding opens_negation opens_for_all
nothing_begins l s low =
    let none : s.to - s.from ≡ 0 = omega (arith, low) in
    sym (
    ap (λ n. ((nat_le 6 n && says_negation l s.from) || (nat_le 5 n && says_for_all l s.from)) || is_some (gather_end l s.from s.to)) none
    ∙ ap is_some (no_gather l s.from s.to (omega (arith, low))))

-- an opener's words end soon after they begin, or before the content ends
abbrev pub EndsWithin : ℕ → ℕ → Opens → Type 0
EndsWithin from to o = (from ≤ opener_end from o) × (opener_end from o ≤ from + 6 + to)

gather_within : (l : Layout) (from to : ℕ) (each that : Option ℕ) → ((e : ℕ) → each ≡ Some e → (from + 5 ≤ e) × (e ≤ to)) → ((e t : ℕ) → each ≡ Some e → that ≡ Some t → (e + 2 ≤ t) × (t ≤ to)) → EndsWithin from to (gather_by l from each that) × OpensOver to (gather_by l from each that)
gather_within l from to (Some e) (Some t) each_in that_in =
    let a = each_in e refl in
    let b = that_in e t refl refl in
    ((omega (arith, a.0, b.0), omega (arith, a.0, a.1, b.0, b.1)), (omega (arith, a.0), (omega (arith, a.0, a.1), (omega (arith, b.0), omega (arith, b.0, b.1)))))
gather_within l from to (Some e) None each_in that_in = ((omega arith, omega arith), tt)
gather_within l from to None that each_in that_in = ((omega arith, omega arith), tt)

second_within : (from to : ℕ) (columns : List ℕ) → EndsWithin from to (second_of columns) × OpensOver to (second_of columns)
second_within from to [] = ((omega arith, omega arith), tt)
second_within from to (c ∷ cs) = ((omega arith, omega arith), tt)

opens_within_by : (l : Layout) (from to : ℕ) (columns : List ℕ) (a b c : Bool) → EndsWithin from to (cond a (second_of columns) (cond b Negation (cond c ForAll (gather_by l from (each_end l from to) (gather_end l from to)))))
    × OpensOver to (cond a (second_of columns) (cond b Negation (cond c ForAll (gather_by l from (each_end l from to) (gather_end l from to)))))
opens_within_by l from to columns true b c = second_within from to columns
opens_within_by l from to columns false true c = ((omega arith, omega arith), tt)
opens_within_by l from to columns false false true = ((omega arith, omega arith), tt)
opens_within_by l from to columns false false false = gather_within l from to (each_end l from to) (gather_end l from to) (each_bounds l from to) (that_bounds l from to)

pub opens_within : (l : Layout) (columns : List ℕ) (item : Item) → EndsWithin item.content.from item.content.to (opens_of l columns item) × OpensOver item.content.to (opens_of l columns item)
unfolding opens_of
opens_within l columns item = opens_within_by l item.content.from item.content.to columns (is_marker item.lead) (opens_negation l item.content.from item.content.to) (opens_for_all l item.content.from item.content.to)

opens_less : (low high : ℕ) (o : Opens) → low ≤ high → OpensOver low o → OpensOver high o
opens_less low high Nothing le h = tt
opens_less low high Negation le h = tt
opens_less low high ForAll le h = tt
opens_less low high (Second c) le h = tt
opens_less low high Stray le h = tt
opens_less low high (Gather fold result name) le h = (h.0, (omega (arith, h.1.0, le), (h.1.1.0, omega (arith, h.1.1.1, le))))

pub entry_over : (l : Layout) (count place column : ℕ) (columns : List ℕ) (item : Item) → IsItemOver count item → IsEntryOver count (entry place column item (opens_of l columns item))
entry_over l count place column columns item over = record {
  begun = (opens_within l columns item).0.0;
  sentence = λ e. ap (opener_end item.content.from) e;
  inside = over.inside;
  opens = opens_less item.content.to count (opens_of l columns item) over.inside (opens_within l columns item).1;
}

further_length : (l : Layout) (columns : List ℕ) (items : List Item) → length (further_entries l columns items) ≡ length items
unfolding further_entries
further_length l columns [] = refl
further_length l columns (item ∷ items) = ap suc (further_length l (unmarked (indent l item.at) columns (opens_of l columns item)) items)

pub further_over : (l : Layout) (count : ℕ) (columns : List ℕ) (items : List Item) → All (IsItemOver count) items → All (IsEntryOver count) (further_entries l columns items)
unfolding further_entries
further_over l count columns [] over = All-nil (IsEntryOver count)
further_over l count columns (item ∷ items) over =
    let o = opens_of l columns item in
    let column = indent l item.at in
    All-cons (IsEntryOver count) (entry item.at column item o) (further_entries l (unmarked column columns o) items)
    (entry_over l count item.at column columns item (All-head (IsItemOver count) item items over))
    (further_over l count (unmarked column columns o) items (All-tail (IsItemOver count) item items over))

pub entries_over : (l : Layout) (count place : ℕ) (items : List Item) → All (IsItemOver count) items → All (IsEntryOver count) (entries_of l place items)
entries_over l count place [] over = All-nil (IsEntryOver count)
entries_over l count place (item ∷ items) over =
    let o = opens_of l [] item in
    let column = indent l item.at in
    All-cons (IsEntryOver count) (entry place column item o) (further_entries l (unmarked column [] o) items)
    (entry_over l count place column [] item (All-head (IsItemOver count) item items over))
    (further_over l count (unmarked column [] o) items (All-tail (IsItemOver count) item items over))

pub seen_over : (l : Layout) (count place : ℕ) (items : List Item) → All (IsItemOver count) items → All (IsEntryOver count) (entries_seen l place items)
seen_over l count place [] over = All-nil (IsEntryOver count)
seen_over l count place (item ∷ []) over =
    All-cons (IsEntryOver count) (entry place 0 item (opens_of l [] item)) [] (entry_over l count place 0 [] item (All-head (IsItemOver count) item [] over)) (All-nil (IsEntryOver count))
seen_over l count place (item ∷ next ∷ items) over = entries_over l count place (item ∷ next ∷ items) over

-- what was found, and one item further
pub further_step : (l : Layout) (columns news : List ℕ) (items : List Item) (d : Item) (k : ℕ) (found new all : List Entry) → k < length items
    → news ≡ unmarked (indent l (get_or items k d).at) columns (opens_of l columns (get_or items k d))
    → new ≡ found ++ entry (get_or items k d).at (indent l (get_or items k d).at) (get_or items k d) (opens_of l columns (get_or items k d)) ∷ []
    → found ++ further_entries l columns (drop k items) ≡ all
    → new ++ further_entries l news (drop (k + 1) items) ≡ all
unfolding further_entries
further_step l columns news items d k found new all low same pushed so_far =
    let item = get_or items k d in
    let o = opens_of l columns item in
    let column = indent l item.at in
    let rest = further_entries l (unmarked column columns o) (drop (k + 1) items) in
    ap (λ cs. new ++ further_entries l cs (drop (k + 1) items)) same
    ∙ ap (λ xs. xs ++ rest) pushed
    ∙ append_assoc found (entry item.at column item o ∷ []) rest
    ∙ ap (λ xs. found ++ further_entries l columns xs) (sym (drop_more items k d low))
    ∙ so_far

pub further_all : (l : Layout) (columns : List ℕ) (items : List Item) (k : ℕ) (found all : List Entry) → length items ≤ k → found ++ further_entries l columns (drop k items) ≡ all → found ≡ all
unfolding further_entries
further_all l columns items k found all high so_far =
    sym (Rattle.std.proofs.Common.append-nil found) ∙ ap (λ xs. found ++ further_entries l columns xs) (sym (drop_all k items high)) ∙ so_far

pub seen_length : (l : Layout) (place : ℕ) (items : List Item) → length (entries_seen l place items) ≡ length items
seen_length l place [] = refl
seen_length l place (item ∷ []) = refl
seen_length l place (item ∷ next ∷ items) = ap suc (further_length l (unmarked (indent l item.at) [] (opens_of l [] item)) (next ∷ items))
