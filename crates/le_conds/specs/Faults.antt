-- What is wrong with the shape of a rule or a query, and which fault decides: this project's profile.
use Rattle.std.specs.Prelude.{◌≡◌, ℕ, ◌-◌, ◌==◌, ◌&&◌, ◌||◌, Bool, true, false, not, if◌then◌else◌, nat_lt, nat_le, is_some, Option, None, Some, List, [], ◌∷◌, ◌++◌, flat_map}
use Rattle.le_base.specs.declared.code.Code.{Code}
use Rattle.le_base.specs.declared.code.Code.TheVariants.{LongSentence, MixedConnectives, BadIndent, NegationScope}
use Rattle.le_layout.specs.declared.span.Span.{Span}
use Rattle.le_layout.specs.declared.fault.Fault.{Fault}
use Rattle.le_layout.specs.declared.layout.Layout.{Layout}
use Rattle.le_layout.specs.Fault.{fault_at, sooner}
use Rattle.le_conds.specs.declared.entry.Join.{Join}
use Rattle.le_conds.specs.declared.entry.Join.TheVariants.{Plain, And, Or}
use Rattle.le_conds.specs.declared.entry.Opens.{Opens}
use Rattle.le_conds.specs.declared.entry.Opens.TheVariants.{Nothing, Negation, ForAll, Second, Stray, Gather}
use Rattle.le_conds.specs.declared.entry.Entry.{Entry}
use Rattle.le_conds.specs.Items.{span}
use Rattle.le_conds.specs.Openers.{opens_negation, opens_for_all, gather_end}
use Rattle.le_conds.specs.Members.{Member, is_empty, is_marker, inside, before_marker, from_marker, deepest_of, members_of}

-- a fault where something is so
abbrev pub fault_if : Bool → Code → ℕ → List Fault
fault_if is_so code place = if is_so then fault_at code place ∷ [] else []

abbrev pub is_connective : Join → Bool
is_connective Plain = false
is_connective _ = true

abbrev pub same_lead : Join → Join → Bool
same_lead Plain Plain = true
same_lead And And = true
same_lead Or Or = true
same_lead _ _ = false

-- A member of a block of this level, but the first, is refused where it is less deep, else where it hasn't the block's connective. A marker is no member.
abbrev pub member_faults : ℕ → Join → Member → List Fault
member_faults level lead m =
    if is_marker m.item.opens then []
    else (if nat_lt m.item.column level then fault_if true BadIndent m.item.at
    else fault_if (not (is_connective m.item.lead && same_lead m.item.lead lead)) MixedConnectives m.item.at)

-- what is wrong with a block whose first item is a sentence after an opener or one with deeper items: its level is the column of the next
abbrev pub headed_faults : List Member → List Fault
headed_faults [] = []
headed_faults (m ∷ ms) = flat_map (member_faults m.item.column m.item.lead) (m ∷ ms)

-- the connective of the second of some members
abbrev pub lead_of_second : List Member → Join
lead_of_second [] = Plain
lead_of_second (m ∷ ms) = m.item.lead

-- what is wrong with a block of members alone: its level is the column of the first
abbrev pub level_faults : List Member → List Fault
level_faults [] = []
level_faults (m ∷ ms) = flat_map (member_faults m.item.column (lead_of_second ms)) ms

-- the first item after a bare opener has no connective
abbrev pub first_is_plain : List Member → List Fault
first_is_plain [] = []
first_is_plain (m ∷ ms) = fault_if (is_connective m.item.lead) BadIndent m.item.at

-- what is wrong with the block in a scope, which an inline sentence heads or not
abbrev pub block_faults : Bool → List Member → List Fault
block_faults true ms = first_is_plain ms ++ level_faults ms
block_faults false ms = headed_faults ms

-- nothing may stand in the scope of a negation that has its sentence
abbrev pub nothing_below : List Member → List Fault
nothing_below [] = []
nothing_below (m ∷ ms) = fault_if true NegationScope m.item.at

-- whether no sentence follows an opener or a marker in its own item
abbrev pub is_bare : Entry → Bool
is_bare e = is_empty e.inline

abbrev pub no_items : List Member → Bool
no_items [] = true
no_items (m ∷ ms) = false

-- What is wrong with the scope of an opener or a marker: it needs a sentence or a deeper item.
abbrev pub scope_faults : Entry → List Member → List Fault
scope_faults e ms = fault_if (is_bare e && no_items ms) BadIndent e.own ++ block_faults (is_bare e) ms

-- the items between a `for all` and its marker are deeper than it
abbrev pub between_faults : ℕ → Member → List Fault
between_faults column m = fault_if (nat_le m.item.column column) BadIndent m.item.at

-- a `for all` has a marker, which is no less deep
abbrev pub marker_faults : Entry → List Member → List Fault
marker_faults e [] = fault_if true BadIndent e.own
marker_faults e (m ∷ ms) = fault_if (nat_lt m.item.column e.column) BadIndent m.item.at

-- what is wrong with a `for all` before its marker: it needs a sentence or a deeper item there
abbrev pub for_all_faults : Entry → List Member → List Fault
for_all_faults e ms =
    fault_if (is_bare e && nat_le (deepest_of ms) e.column) BadIndent e.own
    ++ (flat_map (between_faults e.column) ms ++ block_faults (is_bare e) ms)

-- what is wrong with a negation's scope
abbrev pub negation_faults : Bool → Entry → List Member → List Fault
negation_faults true e ms = scope_faults e ms
negation_faults false e ms = nothing_below ms

-- What is wrong with an item that opens this and what belongs to it, where these members follow it.
abbrev pub opener_faults : Opens → Entry → List Member → List Fault
opener_faults Nothing e ms = headed_faults (inside e.column ms)
opener_faults Negation e ms = negation_faults (is_bare e) e (inside e.column ms)
opener_faults (Gather fold result name) e ms = scope_faults e (inside e.column ms)
opener_faults (Second column) e ms = scope_faults e (inside column ms)
opener_faults Stray e ms = fault_if true BadIndent e.own
opener_faults ForAll e ms = marker_faults e (from_marker ms) ++ for_all_faults e (before_marker ms)

abbrev pub item_faults : Entry → List Member → List Fault
item_faults e ms = opener_faults e.opens e ms

-- all that is wrong with items and what belongs to them
unfoldable pub each_fault : List Entry → List Fault
each_fault [] = []
each_fault (e ∷ es) = item_faults e (members_of es) ++ each_fault es

-- All that is wrong with the blocks of conditions.
abbrev pub shape_faults : List Entry → List Fault
shape_faults es = block_faults true (members_of es) ++ each_fault es

-- whether a span has more than 200 tokens
abbrev pub is_long : Span → Bool
is_long s = nat_lt 200 (s.to - s.from)

-- whether some tokens begin with the words of a negation or of a `for all`
abbrev pub begins_scope : Layout → Span → Bool
begins_scope layout s = opens_negation layout s.from s.to || opens_for_all layout s.from s.to

-- whether some tokens begin with an opener
abbrev pub begins_opener : Layout → Span → Bool
begins_opener layout s = begins_scope layout s || is_some (gather_end layout s.from s.to)

-- all tokens of an item but its connective
abbrev pub content_of : Entry → Span
content_of e = span e.own e.inline.to

-- What is wrong with an item's own tokens: it has none, it has too many, or an opener follows an opener.
abbrev pub part_faults : Layout → Entry → List Fault
part_faults layout e =
    fault_if (is_empty (content_of e)) BadIndent e.at
    ++ (fault_if (is_long (content_of e)) LongSentence e.own
    ++ fault_if (begins_opener layout e.inline) NegationScope e.inline.from)

-- All that is wrong with conditions.
abbrev pub condition_faults : Layout → List Entry → List Fault
condition_faults layout es = flat_map (part_faults layout) es ++ shape_faults es

-- All that is wrong with a conclusion, which an opener of a negation or a `for all` doesn't begin.
abbrev pub conclusion_faults : Layout → Span → List Fault
conclusion_faults layout s =
    fault_if (is_empty s) BadIndent s.from
    ++ (fault_if (is_long s) LongSentence s.from
    ++ fault_if (begins_scope layout s) NegationScope s.from)

-- the fault that decides among these and one that was found after them
abbrev pub least_onto : List Fault → Option Fault → Option Fault
least_onto [] found = found
least_onto (f ∷ fs) found = sooner f (least_onto fs found)

-- The fault that decides.
abbrev pub least_of : List Fault → Option Fault
least_of fs = least_onto fs None
