-- The symbols of a list's term, in the order in which its tokens give them: this project's profile.
use Rattle.std.specs.Prelude.{◌≡◌, ℕ, ◌+◌, ◌-◌, ◌<◌, ◌≤◌, nat_le, Bool, true, false, not, ◌||◌, if◌then◌else◌, Option, Some, None, List, [], ◌∷◌, ◌++◌, length}
use Rattle.le_layout.specs.declared.span.Span.{Span}
use Rattle.le_layout.specs.declared.token.Kind.{Kind}
use Rattle.le_layout.specs.declared.token.Kind.TheVariants as kinds
use Rattle.le_layout.specs.declared.token.Token.{Token}
use Rattle.le_layout.specs.declared.layout.Layout.{Layout}
use Rattle.le_layout.specs.Words.{tokens_of}
use Rattle.le_scope.specs.declared.parts.ListPart.{ListPart}
use Rattle.le_scope.specs.declared.parts.ListPart.TheVariants.{Cell, End, Item}
use Rattle.le_scope.specs.Simple.{is_simple_phrase}
use Rattle.le_scope.specs.Lists.{is_open, is_close, ends_item, until_end, Phrase, simple, empty, list, Items, last, more, tail, spelled}

-- ---- by the tree of the tokens

-- The symbols of the term of a phrase whose first token has this number, in preorder: a phrase without brackets stands for its term, `[]` is the end, and in a list each phrase but the tail is the first of a cell, whose second is the rest of the list, the end after the last phrase, or the tail.
abbrev mutual
  pub parts_of_phrase : ℕ → Phrase → List ListPart
  parts_of_phrase place (simple ts) = Item (record { from = place; to = place + length ts }) ∷ []
  parts_of_phrase place (empty opening closing) = End ∷ []
  parts_of_phrase place (list opening items) = Cell ∷ parts_of_items (place + 1) items

  pub parts_of_items : ℕ → Items → List ListPart
  parts_of_items place (last p closing) = parts_of_phrase place p ++ End ∷ []
  parts_of_items place (more p comma items) = parts_of_phrase place p ++ Cell ∷ parts_of_items (place + length (spelled p) + 1) items
  parts_of_items place (tail p bar q closing) = parts_of_phrase place p ++ parts_of_phrase (place + length (spelled p) + 1) q

-- ---- from the first token to the last

-- whether the bar of the innermost open list was passed
abbrev pub passed : List Bool → Bool
passed [] = false
passed (b ∷ opened) = b

-- the open lists, once the bar of the innermost was passed
abbrev pub bar_passed : List Bool → List Bool
bar_passed [] = []
bar_passed (b ∷ opened) = true ∷ opened

-- the open lists but the innermost
abbrev pub without_innermost : List Bool → List Bool
without_innermost [] = []
without_innermost (b ∷ opened) = opened

-- whether the next token is a closing bracket
abbrev pub closes_next : List Token → Bool
closes_next [] = false
closes_next (t ∷ ts) = is_close t.kind

-- The symbol that a token of this kind gives, or none: the token has this number, it stands in a phrase without brackets that began before it or doesn't, the bar of the innermost open list was passed or wasn't, and these tokens follow. An opening bracket gives the empty list or a cell, a comma a cell, a closing bracket the empty list where no tail stands before it, and the first token of a phrase without brackets gives the phrase.
abbrev pub part_at : Kind → ℕ → Bool → Bool → List Token → Option ListPart
part_at kinds.Open place inside bar ts = if closes_next ts then Some End else Some Cell
part_at kinds.Comma place inside bar ts = Some Cell
part_at kinds.Bar place inside bar ts = None
part_at kinds.Close place inside bar ts = if bar then None else Some End
part_at _ place inside bar ts = if inside then None else Some (Item (record { from = place; to = place + 1 + until_end ts }))

-- the lists that are open after a token of this kind, the innermost first, each with whether its bar was passed, where the next token closes a list or doesn't: an empty list gives nothing more at its closing bracket
abbrev pub opened_after : Kind → Bool → List Bool → List Bool
opened_after kinds.Open closing opened = closing ∷ opened
opened_after kinds.Bar closing opened = bar_passed opened
opened_after kinds.Close closing opened = without_innermost opened
opened_after _ closing opened = opened

-- whether the token after one of this kind stands in a phrase without brackets that began before it
abbrev pub inside_after : Kind → Bool
inside_after kind = not (is_open kind || ends_item kind)

-- a symbol before others
abbrev pub with_part : Option ListPart → List ListPart → List ListPart
with_part None parts = parts
with_part (Some part) parts = part ∷ parts

-- the symbols that tokens give, the first of which has this number
abbrev pub parts_from : ℕ → Bool → List Bool → List Token → List ListPart
parts_from place inside opened [] = []
parts_from place inside opened (t ∷ ts) = with_part (part_at t.kind place inside (passed opened) ts) (parts_from (place + 1) (inside_after t.kind) (opened_after t.kind (closes_next ts) opened) ts)

-- The symbols of the term of a list that the tokens of a span are, in preorder.
unfoldable pub parts_of_list : Layout → Span → List ListPart
parts_of_list layout tokens = parts_from tokens.from false [] (tokens_of layout tokens)

-- ---- what such symbols are

-- one term more
abbrev pub one_more : Option ℕ → Option ℕ
one_more None = None
one_more (Some n) = Some (n + 1)

-- one term of the first two
abbrev pub paired : Option ℕ → Option ℕ
paired None = None
paired (Some n) = if nat_le 2 n then Some (n - 1) else None

-- How many terms some symbols are, one after another, or none where they are no terms: a phrase without brackets and the end are one each, and a cell makes one of the two terms after it.
abbrev pub term_count : List ListPart → Option ℕ
term_count [] = Some 0
term_count (Cell ∷ parts) = paired (term_count parts)
term_count (End ∷ parts) = one_more (term_count parts)
term_count (Item tokens ∷ parts) = one_more (term_count parts)

-- an item is tokens of the layout that are a phrase without brackets
abbrev pub IsPartOf : Layout → ListPart → Type 0
IsPartOf layout Cell = Unit {0}
IsPartOf layout End = Unit {0}
IsPartOf layout (Item tokens) = (tokens.from < tokens.to) × (tokens.to ≤ length layout.tokens) × (is_simple_phrase layout (tokens_of layout tokens) ≡ true)
