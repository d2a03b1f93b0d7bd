-- What the blocks see of the items of conditions: this project's profile.
use Rattle.std.specs.Prelude.{ℕ, ◌+◌, ◌-◌, if◌then◌else◌, drop, codes, Option, Some, List, [], ◌∷◌}
use Rattle.le_base.specs.declared.stop.FoldKind.{FoldKind}
use Rattle.le_base.specs.declared.stop.FoldKind.TheVariants.{Sum, Number, Greatest}
use Rattle.le_layout.specs.declared.layout.Layout.{Layout}
use Rattle.le_layout.specs.Words.{has_word}
use Rattle.le_conds.specs.declared.item.Lead.TheVariants as leads
use Rattle.le_conds.specs.declared.item.Lead.{Lead}
use Rattle.le_conds.specs.declared.item.Item.{Item}
use Rattle.le_conds.specs.Items.{span, is_marker}
use Rattle.le_conds.specs.Openers.{indent, opens_negation, opens_for_all, each_end, gather_end}
use Rattle.le_conds.specs.declared.entry.Join.{Join}
use Rattle.le_conds.specs.declared.entry.Join.TheVariants as joins
use Rattle.le_conds.specs.declared.entry.Opens.{Opens}
use Rattle.le_conds.specs.declared.entry.Opens.TheVariants.{Nothing, Negation, ForAll, Second, Stray, Gather}
use Rattle.le_conds.specs.declared.entry.Entry.{Entry}

-- what is made of the values, by the word before `of each`
abbrev pub fold_at : Layout → ℕ → FoldKind
fold_at layout k = if has_word layout k (codes "sum") then Sum else (if has_word layout k (codes "number") then Number else Greatest)

-- a gather with its result, which ends where the words `is the sum of each` begin, and its name, which stands between them and `such that`
abbrev pub gather_by : Layout → ℕ → Option ℕ → Option ℕ → Opens
gather_by layout from (Some each) (Some that) = Gather (fold_at layout (each - 3)) (span from (each - 5)) (span each (that - 2))
gather_by layout from _ _ = Nothing

-- a marker, where the `for all`s that have none yet have these columns, the last of them first
abbrev pub second_of : List ℕ → Opens
second_of [] = Stray
second_of (column ∷ columns) = Second column

-- What an item opens, after these `for all`s.
unfoldable pub opens_of : Layout → List ℕ → Item → Opens
opens_of layout columns item =
    let from = item.content.from in
    let to = item.content.to in
    if is_marker item.lead then second_of columns
    else (if opens_negation layout from to then Negation
    else (if opens_for_all layout from to then ForAll
    else gather_by layout from (each_end layout from to) (gather_end layout from to)))

-- where the words of an opener end
abbrev pub opener_end : ℕ → Opens → ℕ
opener_end from Nothing = from
opener_end from Negation = from + 6
opener_end from ForAll = from + 5
opener_end from (Second column) = from + 5
opener_end from Stray = from + 5
opener_end from (Gather fold result name) = name.to + 2

-- the connective that an item begins with
abbrev pub join_of : Lead → Join
join_of leads.And = joins.And
join_of leads.Or = joins.Or
join_of _ = joins.Plain

-- the `for all`s that have no marker yet after an item of this column that opens this: a marker is that of the last of them
abbrev pub unmarked : ℕ → List ℕ → Opens → List ℕ
unmarked column columns ForAll = column ∷ columns
unmarked column columns (Second c) = drop 1 columns
unmarked column columns Nothing = columns
unmarked column columns Negation = columns
unmarked column columns Stray = columns
unmarked column columns (Gather fold result name) = columns

-- an item that opens this, has this column, and is shown at this place where it is badly placed
abbrev pub entry : ℕ → ℕ → Item → Opens → Entry
entry place column item opens = record {
  lead = join_of item.lead;
  at = place;
  column = column;
  opens = opens;
  own = item.content.from;
  inline = span (opener_end item.content.from opens) item.content.to;
}

-- What the blocks see of items, after these `for all`s: the column of an item is the indent of its line.
unfoldable pub further_entries : Layout → List ℕ → List Item → List Entry
further_entries layout columns [] = []
further_entries layout columns (item ∷ items) =
    let column = indent layout item.at in
    let opens = opens_of layout columns item in
    entry item.at column item opens ∷ further_entries layout (unmarked column columns opens) items

-- What the blocks see of the items of conditions, the first of which is shown at this place where it is empty.
abbrev pub entries_of : Layout → ℕ → List Item → List Entry
entries_of layout place [] = []
entries_of layout place (item ∷ items) =
    let column = indent layout item.at in
    let opens = opens_of layout [] item in
    entry place column item opens ∷ further_entries layout (unmarked column [] opens) items
