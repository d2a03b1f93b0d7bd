-- How conditions are cut into items: this project's profile.
use Rattle.std.specs.Prelude.{◌≡◌, ℕ, zero, suc, ◌+◌, ◌-◌, ◌==◌, ◌&&◌, ◌||◌, Bool, true, false, if◌then◌else◌, codes, Option, None, Some, List, [], ◌∷◌, ◌++◌}
use Rattle.le_layout.specs.declared.span.Span.{Span}
use Rattle.le_layout.specs.declared.layout.Layout.{Layout}
use Rattle.le_layout.specs.Words.{has_word}
use Rattle.le_conds.specs.declared.item.Lead.{Lead}
use Rattle.le_conds.specs.declared.item.Lead.TheVariants.{Plain, And, Or, Marker}
use Rattle.le_conds.specs.declared.item.Item.{Item}
use Rattle.le_conds.specs.Openers.{is_first, opens_negation, opens_for_all, opens_marker, gather_end, is_place}

abbrev pub is_connective : Lead → Bool
is_connective And = true
is_connective Or = true
is_connective _ = false

abbrev pub is_marker : Lead → Bool
is_marker Marker = true
is_marker _ = false

-- tokens one after another
abbrev pub span : ℕ → ℕ → Span
span from to = record { from = from; to = to }

-- the first token of the content of an item that begins at a token: a connective is no part of its content
abbrev pub content_from : Lead → ℕ → ℕ
content_from lead at = if is_connective lead then at + 1 else at

-- the item that begins so at a token, with no content yet
abbrev pub opened : Lead → ℕ → Item
opened lead at = record { lead = lead; at = at; content = span (content_from lead at) (content_from lead at) }

-- the item with its content up to a token
abbrev pub closed : Item → ℕ → Item
closed item to = record { lead = item.lead; at = item.at; content = span item.content.from to }

-- whether the content so far of an item that begins so is a marker or an opener and nothing else
unfoldable pub is_bare : Layout → Lead → ℕ → ℕ → Bool
is_bare layout lead from k =
    if is_marker lead then k - from == 5
    else (if opens_negation layout from k then k - from == 6
    else (if opens_for_all layout from k then k - from == 5
    else is_place (gather_end layout from k) k))

-- How a further item begins at a token that is the first of its line, where the conditions end here:
-- with `and`, with `or`, with a marker, or plainly where the content so far of the item before it is bare.
unfoldable pub lead_of_line : Layout → ℕ → Item → ℕ → Option Lead
lead_of_line layout to item k =
    if has_word layout k (codes "and") then Some And
    else (if has_word layout k (codes "or") then Some Or
    else (if opens_marker layout k to then Some Marker
    else (if is_bare layout item.lead item.content.from k then Some Plain
    else None)))

-- How a further item begins at a token; any other token continues the content of the item before it.
unfoldable pub lead_at : Layout → ℕ → Item → ℕ → Option Lead
lead_at layout to item k = if is_first layout k then lead_of_line layout to item k else None

-- the item that is open after a token where an item may begin
abbrev pub open_after : Item → ℕ → Option Lead → Item
open_after item k None = item
open_after item k (Some lead) = opened lead k

-- the item that ends before such a token
abbrev pub ended_before : Item → ℕ → Option Lead → List Item
ended_before item k None = []
ended_before item k (Some lead) = closed item k ∷ []

-- the items of so many tokens from a token on, before which an item is open
unfoldable pub items_from : Layout → ℕ → Item → ℕ → ℕ → List Item
items_from layout to item k zero = closed item to ∷ []
items_from layout to item k (suc n) =
    let lead = lead_at layout to item k in
    ended_before item k lead ++ items_from layout to (open_after item k lead) (k + 1) n

-- The items of conditions: the first begins at their first token.
abbrev pub items_of : Layout → ℕ → ℕ → List Item
items_of layout from to = items_from layout to (opened Plain from) from (to - from)

-- a token that is the first of its line and is `and`, `or` or a marker, where the conditions end here
abbrev pub begins_item : Layout → ℕ → ℕ → Bool
begins_item layout to k = is_first layout k && (has_word layout k (codes "and") || (has_word layout k (codes "or") || opens_marker layout k to))

-- one of some items begins at this token
pub record BeginsAt (k : ℕ) (items : List Item) : Type 0 where
  pub front : List Item
  pub item : Item
  pub back : List Item
  pub same : items ≡ front ++ item ∷ back
  pub at : item.at ≡ k
