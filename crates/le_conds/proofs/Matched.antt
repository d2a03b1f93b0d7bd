-- Each marker among the entries of items is that of the last `for all` before it that has none yet.
use Rattle.std.proofs.Common.{ℕ, Bool, true, false, cond, Option, Some, None, List, [], ◌∷◌, refl}
use Rattle.le_layout.specs.declared.layout.Layout.{Layout}
use Rattle.le_conds.specs.declared.item.Item.{Item}
use Rattle.le_conds.specs.Items.{is_marker}
use Rattle.le_conds.specs.Openers.{indent, opens_negation, opens_for_all, each_end, gather_end}
use Rattle.le_conds.specs.declared.entry.Opens.TheVariants.{Negation, ForAll}
use Rattle.le_conds.specs.Entries.{second_of, gather_by, opens_of, unmarked, further_entries, entries_of}
use Rattle.le_conds.specs.Blocks.{IsMatched, AreMatched}

matched_at : (layout : Layout) (from : ℕ) (b c d : Bool) (each that : Option ℕ) (column : ℕ) (columns : List ℕ) (P : List ℕ → Type 0)
    → P (unmarked column columns (cond b (second_of columns) (cond c Negation (cond d ForAll (gather_by layout from each that)))))
    → IsMatched (cond b (second_of columns) (cond c Negation (cond d ForAll (gather_by layout from each that)))) column columns P
matched_at layout from true c d each that column [] P h = h
matched_at layout from true c d each that column (e ∷ columns) P h = (refl, h)
matched_at layout from false true d each that column columns P h = h
matched_at layout from false false true each that column columns P h = h
matched_at layout from false false false (Some e) (Some t) column columns P h = h
matched_at layout from false false false (Some e) None column columns P h = h
matched_at layout from false false false None that column columns P h = h

pub further_matched : (layout : Layout) (columns : List ℕ) (items : List Item) → AreMatched columns (further_entries layout columns items)
unfolding further_entries opens_of
further_matched layout columns [] = tt
further_matched layout columns (item ∷ items) =
    let from = item.content.from in
    let to = item.content.to in
    matched_at layout from (is_marker item.lead) (opens_negation layout from to) (opens_for_all layout from to) (each_end layout from to) (gather_end layout from to) (indent layout item.at) columns
    (λ others. AreMatched others (further_entries layout (unmarked (indent layout item.at) columns (opens_of layout columns item)) items))
    (further_matched layout (unmarked (indent layout item.at) columns (opens_of layout columns item)) items)

pub entries_matched : (layout : Layout) (place : ℕ) (items : List Item) → AreMatched [] (entries_of layout place items)
unfolding further_entries
entries_matched layout place [] = tt
entries_matched layout place (item ∷ items) = further_matched layout [] (item ∷ items)
