-- Where the parts of rules and queries lie: this project's profile.
use Rattle.std.specs.Prelude.{◌≡◌, ℕ, ◌+◌, ◌*◌, ◌-◌, ◌<◌, ◌≤◌, List, length, All, Option, None, Some}
use Rattle.le_layout.specs.declared.span.Span.{Span}
use Rattle.le_layout.specs.declared.layout.Layout.{Layout}
use Rattle.le_layout.specs.Words.{IsSpan}
use Rattle.le_conds.specs.declared.cond.CondKind.TheVariants.{Sentence, And, Or, Not, ForAll, Gather}
use Rattle.le_conds.specs.declared.cond.CondKind.{CondKind}
use Rattle.le_conds.specs.declared.cond.Cond.{Cond}
use Rattle.le_conds.specs.declared.cond.Conds.{Conds}
use Rattle.le_conds.specs.declared.item.Item.{Item}
use Rattle.le_conds.specs.declared.entry.Opens.{Opens}
use Rattle.le_conds.specs.declared.entry.Opens.TheVariants as Opening
use Rattle.le_conds.specs.declared.entry.Entry.{Entry}
use Rattle.le_conds.specs.Trees.{IsTree}

-- a sentence has 1 to 200 tokens of the layout
pub record IsPart (layout : Layout) (span : Span) : Type 0 where
  pub some : span.from < span.to
  pub within : span.to ≤ length layout.tokens
  pub short : span.to - span.from ≤ 200

-- the content of an item lies among so many tokens
pub record IsItemOver (count : ℕ) (item : Item) : Type 0 where
  pub ordered : item.content.from ≤ item.content.to
  pub inside : item.content.to ≤ count

-- items among so many tokens; where there are several, each begins at one of them
pub record AreItemsOver (count : ℕ) (items : List Item) : Type 0 where
  pub over : All (IsItemOver count) items
  pub at : 1 < length items → All (λ item. item.at < count) items

-- what the blocks see of an item ends among so many tokens, and so do a gather's result and name
abbrev pub OpensOver : ℕ → Opens → Type 0
OpensOver count (Opening.Gather fold result name) = (result.from ≤ result.to) × ((result.to ≤ count) × ((name.from ≤ name.to) × (name.to ≤ count)))
OpensOver count _ = Unit {0}

pub record IsEntryOver (count : ℕ) (e : Entry) : Type 0 where
  pub begun : e.own ≤ e.inline.from
  pub sentence : e.opens ≡ Opening.Nothing → e.inline.from ≡ e.own
  pub inside : e.inline.to ≤ count
  pub opens : OpensOver count e.opens

-- a sentence has 1 to 200 tokens, and a gather's result and name, either of which may be empty, are tokens too
abbrev pub IsKindIn : Layout → CondKind → Type 0
IsKindIn layout (Sentence span) = IsPart layout span
IsKindIn layout (And count) = Unit {0}
IsKindIn layout (Or count) = Unit {0}
IsKindIn layout Not = Unit {0}
IsKindIn layout ForAll = Unit {0}
IsKindIn layout (Gather fold result name) = IsSpan layout result × IsSpan layout name

-- a condition lies among the tokens of a layout
pub record IsCondIn (layout : Layout) (c : Cond) : Type 0 where
  pub at : c.at < length layout.tokens
  pub kind : IsKindIn layout c.kind

-- conditions of a sentence that ends here: they lie among the tokens, are those of one tree, and there are few
pub record AreConds (layout : Layout) (to : ℕ) (conds : Conds) : Type 0 where
  pub within : All (IsCondIn layout) conds.nodes
  pub whole : IsTree conds.nodes
  pub few : length conds.nodes ≤ 3 * to + 4

abbrev pub AreRuleConds : Layout → ℕ → Option Conds → Type 0
AreRuleConds layout to None = Unit {0}
AreRuleConds layout to (Some conds) = AreConds layout to conds
