-- The members of the blocks in which items stand, and the tree of conditions: this project's profile.
use Rattle.std.specs.Prelude.{ℕ, max, Bool, true, false, not, ◌&&◌, nat_lt, nat_le, if◌then◌else◌, List, [], ◌∷◌, ◌++◌, map}
use Rattle.le_layout.specs.declared.span.Span.{Span}
use Rattle.le_conds.specs.declared.entry.Join.{Join}
use Rattle.le_conds.specs.declared.entry.Join.TheVariants.{Plain, Or}
use Rattle.le_conds.specs.declared.entry.Opens.{Opens}
use Rattle.le_conds.specs.declared.entry.Opens.TheVariants.{Nothing, Negation, ForAll, Second, Stray, Gather}
use Rattle.le_conds.specs.declared.entry.Entry.{Entry}
use Rattle.le_conds.specs.Trees.{Tree, Trees, none, more, sentence, all, some, negation, for_all, gather}

-- a member of a block: an item, the greatest column among it and the items that it takes, and the tree of them all
pub record Member : Type 0 where
  pub item : Entry
  pub deepest : ℕ
  pub tree : Tree

-- whether an item is a marker: it begins the second block of a `for all`
abbrev pub is_marker : Opens → Bool
is_marker (Second column) = true
is_marker Stray = true
is_marker _ = false

-- whether a span has no token
abbrev pub is_empty : Span → Bool
is_empty s = nat_le s.to s.from

-- whether a member belongs to a scope of this column: it is deeper, and no marker
abbrev pub belongs : ℕ → Member → Bool
belongs column m = not (is_marker m.item.opens) && nat_lt column m.item.column

-- of the members that follow an item, those that belong to a scope of this column, and those that follow them
abbrev pub inside : ℕ → List Member → List Member
inside column [] = []
inside column (m ∷ ms) = if belongs column m then m ∷ inside column ms else []

abbrev pub following : ℕ → List Member → List Member
following column [] = []
following column (m ∷ ms) = if belongs column m then following column ms else m ∷ ms

-- of the members that follow a `for all`, those before its marker, those up to its marker, and the rest from its marker on
abbrev pub before_marker : List Member → List Member
before_marker [] = []
before_marker (m ∷ ms) = if is_marker m.item.opens then [] else m ∷ before_marker ms

abbrev pub through_marker : List Member → List Member
through_marker [] = []
through_marker (m ∷ ms) = if is_marker m.item.opens then m ∷ [] else m ∷ through_marker ms

abbrev pub from_marker : List Member → List Member
from_marker [] = []
from_marker (m ∷ ms) = if is_marker m.item.opens then m ∷ ms else from_marker ms

abbrev pub without_first : List Member → List Member
without_first [] = []
without_first (m ∷ ms) = ms

-- the greatest column among some members and what belongs to them
abbrev pub deepest_of : List Member → ℕ
deepest_of [] = 0
deepest_of (m ∷ ms) = max m.deepest (deepest_of ms)

-- trees one after another
abbrev pub trees_of : List Tree → Trees
trees_of [] = none
trees_of (t ∷ ts) = more t (trees_of ts)

-- several conditions joined by `or` are one of them, joined by `and` all of them
abbrev pub of_several : Join → Trees → Tree
of_several Or ts = some ts
of_several _ ts = all ts

-- One tree is itself, and several are joined.
abbrev pub joined : Join → List Tree → Tree
joined lead [] = all none
joined lead (t ∷ []) = t
joined lead (t ∷ u ∷ ts) = of_several lead (trees_of (t ∷ u ∷ ts))

-- the connective of the first of some members
abbrev pub first_lead : List Member → Join
first_lead [] = Plain
first_lead (m ∷ ms) = m.item.lead

-- the sentence that follows an opener in its own item, if there is one
abbrev pub inline_of : Entry → List Tree
inline_of e = if is_empty e.inline then [] else sentence e.inline ∷ []

-- The tree of a block: a sentence at its head, if it has one, and members after it, of which the block's second one has the block's connective.
abbrev pub block : List Tree → List Member → Tree
block [] ms = joined (first_lead (without_first ms)) (map (λ (m : Member). m.tree) ms)
block (t ∷ ts) ms = joined (first_lead ms) (t ∷ ts ++ map (λ (m : Member). m.tree) ms)

-- a `for all` at a token with its first block, and its second one, which its marker has; without a marker it is refused
abbrev pub with_second : ℕ → Tree → List Member → Tree
with_second own t [] = t
with_second own t (m ∷ ms) = for_all own t m.tree

-- an item that takes these members, with the tree that is made of them
abbrev pub member : Entry → List Member → Tree → Member
member e ms tree = record { item = e; deepest = max e.column (deepest_of ms); tree = tree }

-- an item whose scope has this column takes the members that belong to it, and this is made of them
abbrev pub taking : ℕ → Entry → (List Member → Tree) → List Member → List Member
taking column e tree ms = member e (inside column ms) (tree (inside column ms)) ∷ following column ms

-- What an item that opens this makes of the members that follow it: a `for all` takes those before its marker, and the marker, which has the second block.
abbrev pub with_opener : Opens → Entry → List Member → List Member
with_opener Nothing e ms = taking e.column e (block (sentence e.inline ∷ [])) ms
with_opener Negation e ms = taking e.column e (λ inner. negation e.own (block (inline_of e) inner)) ms
with_opener (Gather fold result name) e ms = taking e.column e (λ inner. gather e.own fold result name (block (inline_of e) inner)) ms
with_opener (Second column) e ms = taking column e (block (inline_of e)) ms
with_opener Stray e ms = taking e.column e (block (inline_of e)) ms
with_opener ForAll e ms =
    member e (through_marker ms) (with_second e.own (block (inline_of e) (before_marker ms)) (from_marker ms)) ∷ without_first (from_marker ms)

abbrev pub with_item : Entry → List Member → List Member
with_item e ms = with_opener e.opens e ms

-- The members that items make: each item with the deeper items that follow it.
unfoldable pub members_of : List Entry → List Member
members_of [] = []
members_of (e ∷ es) = with_item e (members_of es)

-- The tree of conditions: the block of all their items.
abbrev pub tree_of : List Entry → Tree
tree_of es = block [] (members_of es)
