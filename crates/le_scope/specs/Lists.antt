-- Phrases that are lists: this project's profile. A grammar as trees, and the lengths found in one walk from the last token to the first.
use Rattle.std.specs.Prelude.{◌≡◌, ℕ, ◌+◌, ◌==◌, Bool, true, false, if◌then◌else◌, List, [], ◌∷◌, ◌++◌, length, take, slice_index_or}
use Rattle.le_layout.specs.declared.token.Kind.{Kind}
use Rattle.le_layout.specs.declared.token.Kind.TheVariants as kinds
use Rattle.le_layout.specs.declared.token.Token.{Token}
use Rattle.le_layout.specs.declared.layout.Layout.{Layout}
use Rattle.le_layout.specs.Layout.{no_token}
use Rattle.le_scope.specs.declared.lists.ListLengths.{ListLengths}
use Rattle.le_scope.specs.Simple.{is_simple_phrase}

abbrev pub is_open : Kind → Bool
is_open kinds.Open = true
is_open _ = false

abbrev pub is_close : Kind → Bool
is_close kinds.Close = true
is_close _ = false

abbrev pub is_bar : Kind → Bool
is_bar kinds.Bar = true
is_bar _ = false

abbrev pub is_comma : Kind → Bool
is_comma kinds.Comma = true
is_comma _ = false

-- whether a token ends the phrase before it in a list
abbrev pub ends_item : Kind → Bool
ends_item kinds.Close = true
ends_item kinds.Bar = true
ends_item kinds.Comma = true
ends_item _ = false

-- ---- the grammar

-- A phrase is tokens without brackets, an empty list, or a list with items. Items are a last phrase, a phrase with further items, or a phrase and the list's tail. Each bracket, comma and bar is kept.
mutual
  pub data Phrase : Type 0 where
    simple : List Token → Phrase
    empty : Token → Token → Phrase
    list : Token → Items → Phrase

  pub data Items : Type 0 where
    last : Phrase → Token → Items
    more : Phrase → Token → Items → Items
    tail : Phrase → Token → Phrase → Token → Items

-- the tokens of a phrase and of items
abbrev mutual
  pub spelled : Phrase → List Token
  spelled (simple ts) = ts
  spelled (empty opening closing) = opening ∷ closing ∷ []
  spelled (list opening items) = opening ∷ items_spelled items

  pub items_spelled : Items → List Token
  items_spelled (last p closing) = spelled p ++ closing ∷ []
  items_spelled (more p comma items) = spelled p ++ comma ∷ items_spelled items
  items_spelled (tail p bar q closing) = spelled p ++ bar ∷ (spelled q ++ closing ∷ [])

-- the tokens have the kinds of their places, and phrases without brackets are phrases
abbrev mutual
  pub IsPhraseOf : Layout → Phrase → Type 0
  IsPhraseOf layout (simple ts) = is_simple_phrase layout ts ≡ true
  IsPhraseOf layout (empty opening closing) = (is_open opening.kind ≡ true) × (is_close closing.kind ≡ true)
  IsPhraseOf layout (list opening items) = (is_open opening.kind ≡ true) × AreItemsOf layout items

  pub AreItemsOf : Layout → Items → Type 0
  AreItemsOf layout (last p closing) = IsPhraseOf layout p × (is_close closing.kind ≡ true)
  AreItemsOf layout (more p comma items) = IsPhraseOf layout p × (is_comma comma.kind ≡ true) × AreItemsOf layout items
  AreItemsOf layout (tail p bar q closing) = IsPhraseOf layout p × (is_bar bar.kind ≡ true) × IsPhraseOf layout q × (is_close closing.kind ≡ true)

-- whether a phrase is a list
abbrev pub is_list : Phrase → Bool
is_list (simple ts) = false
is_list (empty opening closing) = true
is_list (list opening items) = true

-- ---- the lengths at each token

-- no lengths at a token
abbrev pub no_lengths : ListLengths
no_lengths = record { phrase = 0; items = 0; last = 0 }

-- the lengths at a place, from those at the tokens from there on
abbrev pub at : List ListLengths → ℕ → ListLengths
at rows n = slice_index_or rows n no_lengths

-- how many tokens stand before one that ends an item
abbrev pub until_end : List Token → ℕ
until_end [] = 0
until_end (t ∷ ts) = if ends_item t.kind then 0 else until_end ts + 1

-- one more, where it isn't 0
abbrev pub onto : ℕ → ℕ → ℕ
onto n m = if m == 0 then 0 else n + m

-- the length of a list whose first bracket is this token, where the tokens after it have these lengths
abbrev pub list_length : List Token → List ListLengths → ℕ
list_length [] rows = 0
list_length (t ∷ ts) rows = if is_close t.kind then 2 else onto 1 (at rows 0).items

-- the length of a phrase in a list
abbrev pub item_length : Layout → Token → List Token → List ListLengths → ℕ
item_length layout t ts rows =
    if is_open t.kind then list_length ts rows
    else (if is_simple_phrase layout (take (until_end (t ∷ ts)) (t ∷ ts)) then until_end (t ∷ ts) else 0)

-- the length of items whose first phrase has so many tokens, by the token after it
abbrev pub items_length : ℕ → Kind → ListLengths → ℕ
items_length n kinds.Close row = n + 1
items_length n kinds.Comma row = onto (n + 1) row.items
items_length n kinds.Bar row = onto (n + 1) row.last
items_length n _ row = 0

-- the length of a last phrase of so many tokens and the bracket after it
abbrev pub last_length : ℕ → Kind → ℕ
last_length n kinds.Close = n + 1
last_length n _ = 0

-- the lengths at a token whose phrase has so many tokens
abbrev pub lengths_by : ℕ → Token → List Token → List ListLengths → ListLengths
lengths_by n t ts rows =
    let next = (slice_index_or (t ∷ ts) n no_token).kind in
    record { phrase = n; items = if n == 0 then 0 else items_length n next (at rows n); last = if n == 0 then 0 else last_length n next }

-- The lengths at each token, from the last to the first.
abbrev pub rows_of : Layout → List Token → List ListLengths
rows_of layout [] = []
rows_of layout (t ∷ ts) = let rows = rows_of layout ts in lengths_by (item_length layout t ts rows) t ts rows ∷ rows

-- the lengths at the first of some tokens
abbrev pub first_row : Layout → List Token → ListLengths
first_row layout ts = at (rows_of layout ts) 0

-- a list of so many tokens stands at the front of tokens
pub record IsListAt (layout : Layout) (ts : List Token) (n : ℕ) : Type 0 where
  pub phrase : Phrase
  pub rest : List Token
  pub valid : IsPhraseOf layout phrase
  pub lists : is_list phrase ≡ true
  pub split : ts ≡ spelled phrase ++ rest
  pub size : n ≡ length (spelled phrase)

-- tokens are one list, of which this is the tree
pub record IsListOf (layout : Layout) (ts : List Token) : Type 0 where
  pub phrase : Phrase
  pub valid : IsPhraseOf layout phrase
  pub lists : is_list phrase ≡ true
  pub whole : ts ≡ spelled phrase
