-- A tree that stands by the rules is the one that is found, without a fault.
use Rattle.std.proofs.Common.{◌≡◌, ◌≤◌, ◌<◌, ℕ, ◌&&◌, Bool, true, false, not, cond, max, ltb, leb, List, [], ◌∷◌, ◌++◌, map, flat_map, Option, Some, None, refl, sym, ap, ◌∙◌, subst, arith, append_assoc, append-nil}
use Rattle.std.proofs.lemmas.Bool.{and_parts, lt-ltb, le-ltb, ltb-true, ltb-false, lt-leb, true≢false}
use Rattle.le_layout.specs.declared.span.Span.{Span}
use Rattle.le_base.specs.declared.code.Code.TheVariants.{BadIndent, MixedConnectives}
use Rattle.le_conds.specs.declared.entry.Join.{Join}
use Rattle.le_conds.specs.declared.entry.Join.TheVariants.{Plain, And, Or}
use Rattle.le_conds.specs.declared.entry.Opens.TheVariants.{Nothing, Negation, ForAll, Second, Gather}
use Rattle.le_conds.specs.declared.entry.Entry.{Entry}
use Rattle.le_layout.specs.declared.fault.Fault.{Fault}
use Rattle.le_conds.specs.Trees.{Tree, Trees, none, more, sentence, negation, for_all, gather}
use Rattle.le_conds.specs.Members.{Member, is_marker, belongs, inside, following, before_marker, through_marker, from_marker, without_first, deepest_of, trees_of, of_several, joined, first_lead, inline_of, block, with_second, member, with_opener, members_of, tree_of}
use Rattle.le_conds.specs.Faults.{fault_if, is_connective, same_lead, member_faults, headed_faults, block_faults, nothing_below, is_bare, no_items, scope_faults, between_faults, marker_faults, for_all_faults, negation_faults, opener_faults, each_fault, shape_faults}
use Rattle.le_conds.specs.Blocks.{AreDeeper, HasHead, IsMember, IsBlock, IsMembers, a_sentence, a_negation, a_negation_of_block, a_gather, a_for_all, head_alone, head_with, one, several, last, next}

-- the first of some members, if there is one, is none of a scope of this column
abbrev pub Stops : ℕ → List Member → Type 0
Stops column [] = Unit {0}
Stops column (m ∷ ms) = belongs column m ≡ false

-- each of some members is of such a scope
abbrev pub Belong : ℕ → List Member → Type 0
Belong column [] = Unit {0}
Belong column (m ∷ ms) = (belongs column m ≡ true) × Belong column ms

-- each of some members stands at this column and begins so
abbrev pub StandAt : ℕ → Join → List Member → Type 0
StandAt column lead [] = Unit {0}
StandAt column lead (m ∷ ms) = ((m.item.column ≡ column) × (m.item.lead ≡ lead) × (is_marker m.item.opens ≡ false)) × StandAt column lead ms

inside-stop : (column : ℕ) (rest : List Member) → Stops column rest → inside column rest ≡ []
inside-stop column [] stops = refl
inside-stop column (m ∷ ms) stops = ap (λ b. cond b (m ∷ inside column ms) []) stops

following-stop : (column : ℕ) (rest : List Member) → Stops column rest → following column rest ≡ rest
following-stop column [] stops = refl
following-stop column (m ∷ ms) stops = ap (λ b. cond b (following column ms) (m ∷ ms)) stops

inside-all : (column : ℕ) (ms rest : List Member) → Belong column ms → Stops column rest → inside column (ms ++ rest) ≡ ms
inside-all column [] rest all_in stops = inside-stop column rest stops
inside-all column (m ∷ ms) rest all_in stops =
    ap (λ b. cond b (m ∷ inside column (ms ++ rest)) []) all_in.0
    ∙ ap (λ xs. m ∷ xs) (inside-all column ms rest all_in.1 stops)

following-all : (column : ℕ) (ms rest : List Member) → Belong column ms → Stops column rest → following column (ms ++ rest) ≡ rest
following-all column [] rest all_in stops = following-stop column rest stops
following-all column (m ∷ ms) rest all_in stops =
    ap (λ b. cond b (following column (ms ++ rest)) (m ∷ ms ++ rest)) all_in.0
    ∙ following-all column ms rest all_in.1 stops

not_so : (b : Bool) → not b ≡ true → b ≡ false
not_so true e = absurd (true≢false (sym e))
not_so false e = refl

-- members of a scope are no markers
before-all : (column : ℕ) (ms : List Member) (marker : Member) (rest : List Member) → Belong column ms → is_marker marker.item.opens ≡ true → before_marker (ms ++ marker ∷ rest) ≡ ms
before-all column [] marker rest all_in is = ap (λ b. cond b [] (marker ∷ before_marker rest)) is
before-all column (m ∷ ms) marker rest all_in is =
    ap (λ b. cond b [] (m ∷ before_marker (ms ++ marker ∷ rest))) (not_so (is_marker m.item.opens) (and_parts (not (is_marker m.item.opens)) (ltb column m.item.column) all_in.0).0)
    ∙ ap (λ xs. m ∷ xs) (before-all column ms marker rest all_in.1 is)

through-all : (column : ℕ) (ms : List Member) (marker : Member) (rest : List Member) → Belong column ms → is_marker marker.item.opens ≡ true → through_marker (ms ++ marker ∷ rest) ≡ ms ++ marker ∷ []
through-all column [] marker rest all_in is = ap (λ b. cond b (marker ∷ []) (marker ∷ through_marker rest)) is
through-all column (m ∷ ms) marker rest all_in is =
    ap (λ b. cond b (m ∷ []) (m ∷ through_marker (ms ++ marker ∷ rest))) (not_so (is_marker m.item.opens) (and_parts (not (is_marker m.item.opens)) (ltb column m.item.column) all_in.0).0)
    ∙ ap (λ xs. m ∷ xs) (through-all column ms marker rest all_in.1 is)

from-all : (column : ℕ) (ms : List Member) (marker : Member) (rest : List Member) → Belong column ms → is_marker marker.item.opens ≡ true → from_marker (ms ++ marker ∷ rest) ≡ marker ∷ rest
from-all column [] marker rest all_in is = ap (λ b. cond b (marker ∷ rest) (from_marker rest)) is
from-all column (m ∷ ms) marker rest all_in is =
    ap (λ b. cond b (m ∷ ms ++ marker ∷ rest) (from_marker (ms ++ marker ∷ rest))) (not_so (is_marker m.item.opens) (and_parts (not (is_marker m.item.opens)) (ltb column m.item.column) all_in.0).0)
    ∙ from-all column ms marker rest all_in.1 is

-- what stops a scope stops a deeper one
deeper_stops : (low high : ℕ) → low ≤ high → (ms : List Member) → Stops low ms → Stops high ms
deeper_stops low high order [] stops = tt
deeper_stops low high order (m ∷ ms) stops = at_stop (is_marker m.item.opens) m.item.column stops
  where
    at_stop : (b : Bool) (column : ℕ) → (not b && ltb low column) ≡ false → (not b && ltb high column) ≡ false
    at_stop true column h = refl
    at_stop false column h = le-ltb high column (omega (arith, ltb-false low column h))

-- members at one column are of a scope that is less deep, and stop one of that column
stand_belong : (column level : ℕ) (lead : Join) → column < level → (ms : List Member) → StandAt level lead ms → Belong column ms
stand_belong column level lead order [] h = tt
stand_belong column level lead order (m ∷ ms) h =
    (ap (λ b. not b && ltb column m.item.column) h.0.2 ∙ lt-ltb column m.item.column (omega (arith, h.0.0)), stand_belong column level lead order ms h.1)

stand_stop : (level : ℕ) (lead : Join) (m : Member) (ms rest : List Member) → StandAt level lead (m ∷ ms) → Stops level (m ∷ ms ++ rest)
stand_stop level lead m ms rest h = ap (λ b. not b && ltb level m.item.column) h.0.2 ∙ le-ltb level m.item.column (omega (arith, h.0.0))

-- no member at the level with the connective is refused
same_lead-refl : (lead : Join) → same_lead lead lead ≡ true
same_lead-refl Plain = refl
same_lead-refl And = refl
same_lead-refl Or = refl

and_false : (b : Bool) → (b && false) ≡ false
and_false true = refl
and_false false = refl

member_sound : (level : ℕ) (lead : Join) (m : Member) → is_connective lead ≡ true → m.item.column ≡ level → m.item.lead ≡ lead → is_marker m.item.opens ≡ false → member_faults level lead m ≡ []
member_sound level lead m connects at begins plain =
    ap (λ b. cond b [] (cond (ltb m.item.column level) (fault_if true BadIndent m.item.at) (fault_if (not (is_connective m.item.lead && same_lead m.item.lead lead)) MixedConnectives m.item.at))) plain
    ∙ ap (λ b. cond b (fault_if true BadIndent m.item.at) (fault_if (not (is_connective m.item.lead && same_lead m.item.lead lead)) MixedConnectives m.item.at)) (le-ltb m.item.column level (omega (arith, at)))
    ∙ ap (λ l. fault_if (not (is_connective l && same_lead l lead)) MixedConnectives m.item.at) begins
    ∙ ap (λ b. fault_if (not (b && same_lead lead lead)) MixedConnectives m.item.at) connects
    ∙ ap (λ b. fault_if (not b) MixedConnectives m.item.at) (same_lead-refl lead)

members_sound : (level : ℕ) (lead : Join) (ms : List Member) → is_connective lead ≡ true → StandAt level lead ms → flat_map (member_faults level lead) ms ≡ []
members_sound level lead [] connects h = refl
members_sound level lead (m ∷ ms) connects h = ap (λ fs. fs ++ flat_map (member_faults level lead) ms) (member_sound level lead m connects h.0.0 h.0.1 h.0.2) ∙ members_sound level lead ms connects h.1

-- What the items of a member make, where these items stand after them.
record MemberFound (column : ℕ) (lead : Join) (es rs : List Entry) (t : Tree) : Type 0 where
  m : Member
  at : m.item.column ≡ column
  begins : m.item.lead ≡ lead
  plain : is_marker m.item.opens ≡ false
  deep : column ≤ m.deepest
  tree : m.tree ≡ t
  members : members_of (es ++ rs) ≡ m ∷ members_of rs
  faults : each_fault (es ++ rs) ≡ each_fault rs

-- the tree of a sentence that heads a block, if there is one
abbrev pub head_trees : Option Span → List Tree
head_trees None = []
head_trees (Some s) = sentence s ∷ []

abbrev pub is_headless : Option Span → Bool
is_headless None = true
is_headless (Some s) = false

-- What the items of a block make in a scope of a column.
record BlockFound (column : ℕ) (head : Option Span) (es rs : List Entry) (t : Tree) : Type 0 where
  ms : List Member
  belong : Belong column ms
  deep : no_items ms ≡ false → column < deepest_of ms
  filled : is_headless head ≡ true → no_items ms ≡ false
  tree : block (head_trees head) ms ≡ t
  sound : block_faults (is_headless head) ms ≡ []
  members : members_of (es ++ rs) ≡ ms ++ members_of rs
  faults : each_fault (es ++ rs) ≡ each_fault rs

-- What the items of members at one column make.
record MembersFound (column : ℕ) (lead : Join) (es rs : List Entry) (ts : Trees) : Type 0 where
  ms : List Member
  level : StandAt column lead ms
  deep : no_items ms ≡ false → column ≤ deepest_of ms
  filled : no_items ms ≡ false
  trees : trees_of (map (λ (m : Member). m.tree) ms) ≡ ts
  members : members_of (es ++ rs) ≡ ms ++ members_of rs
  faults : each_fault (es ++ rs) ≡ each_fault rs

-- a member whose items are deeper than a column stands at a deeper one
level_deeper : (low column : ℕ) (lead : Join) (es : List Entry) (t : Tree) → IsMember column lead es t → AreDeeper low es → low < column
level_deeper low column lead es t (a_sentence e deeper u opens all_deeper inner) h = h.0
level_deeper low column lead es t (a_negation e opens filled) h = h.0
level_deeper low column lead es t (a_negation_of_block e deeper u opens bare all_deeper inner) h = h.0
level_deeper low column lead es t (a_gather e fold result name head deeper u opens heads all_deeper inner) h = h.0
level_deeper low column lead es t (a_for_all e marker head second_head first second u w opens heads all_deeper inner marks order second_heads second_deeper second_inner) h = h.0

deeper_first : (low : ℕ) (es ds : List Entry) → AreDeeper low (es ++ ds) → AreDeeper low es
deeper_first low [] ds h = tt
deeper_first low (e ∷ es) ds h = (h.0, deeper_first low es ds h.1)

deeper_rest : (low : ℕ) (es ds : List Entry) → AreDeeper low (es ++ ds) → AreDeeper low ds
deeper_rest low [] ds h = h
deeper_rest low (e ∷ es) ds h = deeper_rest low es ds h.1

-- a scope without a fault, whose opener has a sentence or members
scope_sound : (e : Entry) (head : Option Span) (ms : List Member) → HasHead e head → (is_headless head ≡ true → no_items ms ≡ false) → block_faults (is_headless head) ms ≡ [] → scope_faults e ms ≡ []
scope_sound e None ms has filled sound =
    ap (λ b. fault_if (b && no_items ms) BadIndent e.own ++ block_faults b ms) has
    ∙ ap (λ b. fault_if b BadIndent e.own ++ block_faults true ms) (filled refl) ∙ sound
scope_sound e (Some s) ms has filled sound =
    ap (λ b. fault_if (b && no_items ms) BadIndent e.own ++ block_faults b ms) has.0 ∙ sound

-- the head of a block is the sentence that its opener has
pub inline_head : (e : Entry) (head : Option Span) → HasHead e head → inline_of e ≡ head_trees head
inline_head e None has = ap (λ b. cond b [] (sentence e.inline ∷ [])) has
inline_head e (Some s) has = ap (λ b. cond b [] (sentence e.inline ∷ [])) has.0 ∙ ap (λ x. sentence x ∷ []) has.1

max_low : (a b : ℕ) → a ≤ max a b
max_low a b = omega arith

-- what an item takes of members that belong to it, before others that stop its scope
taking_all : (column : ℕ) (e : Entry) (tree : List Member → Tree) (ms rest : List Member) → Belong column ms → Stops column rest → member e (inside column (ms ++ rest)) (tree (inside column (ms ++ rest))) ∷ following column (ms ++ rest) ≡ member e ms (tree ms) ∷ rest
taking_all column e tree ms rest all_in stops =
    ap (λ xs. member e xs (tree xs) ∷ following column (ms ++ rest)) (inside-all column ms rest all_in stops)
    ∙ ap (λ xs. member e ms (tree ms) ∷ xs) (following-all column ms rest all_in stops)

between_sound : (column : ℕ) (ms : List Member) → Belong column ms → flat_map (between_faults column) ms ≡ []
between_sound column [] all_in = refl
between_sound column (m ∷ ms) all_in =
    ap (λ b. fault_if b BadIndent m.item.at ++ flat_map (between_faults column) ms)
    (lt-leb m.item.column column (ltb-true column m.item.column (and_parts (not (is_marker m.item.opens)) (ltb column m.item.column) all_in.0).1))
    ∙ between_sound column ms all_in.1

for_all_sound : (e : Entry) (head : Option Span) (ms : List Member) → HasHead e head → (is_headless head ≡ true → no_items ms ≡ false) → (no_items ms ≡ false → e.column < deepest_of ms) → Belong e.column ms → block_faults (is_headless head) ms ≡ [] → for_all_faults e ms ≡ []
for_all_sound e None ms has filled deep all_in sound =
    ap (λ b. fault_if (b && leb (deepest_of ms) e.column) BadIndent e.own ++ (flat_map (between_faults e.column) ms ++ block_faults b ms)) has
    ∙ ap (λ b. fault_if b BadIndent e.own ++ (flat_map (between_faults e.column) ms ++ block_faults true ms)) (lt-leb (deepest_of ms) e.column (deep (filled refl)))
    ∙ ap (λ fs. fs ++ block_faults true ms) (between_sound e.column ms all_in)
    ∙ sound
for_all_sound e (Some s) ms has filled deep all_in sound =
    ap (λ b. fault_if (b && leb (deepest_of ms) e.column) BadIndent e.own ++ (flat_map (between_faults e.column) ms ++ block_faults b ms)) has.0
    ∙ ap (λ fs. fs ++ block_faults false ms) (between_sound e.column ms all_in)
    ∙ sound

-- the faults of an item and of those after it
no_more_faults : (fs gs hs : List Fault) → fs ≡ [] → gs ≡ hs → fs ++ gs ≡ hs
no_more_faults fs gs hs e f = ap (λ x. x ++ gs) e ∙ f

-- trees one after another, of which there is one more
joined_more : (lead : Join) (t : Tree) (ms : List Member) (ts : Trees) → no_items ms ≡ false → trees_of (map (λ (m : Member). m.tree) ms) ≡ ts → joined lead (t ∷ map (λ (m : Member). m.tree) ms) ≡ of_several lead (more t ts)
joined_more lead t [] ts some_items same = absurd (true≢false some_items)
joined_more lead t (m ∷ ms) ts some_items same = ap (λ us. of_several lead (more t us)) same

lead_of_first : (column : ℕ) (lead : Join) (ms : List Member) → no_items ms ≡ false → StandAt column lead ms → first_lead ms ≡ lead
lead_of_first column lead [] some_items level = absurd (true≢false some_items)
lead_of_first column lead (m ∷ ms) some_items level = level.0.1

headed_sound : (column : ℕ) (lead : Join) (ms : List Member) → is_connective lead ≡ true → StandAt column lead ms → headed_faults ms ≡ []
headed_sound column lead [] connects level = refl
headed_sound column lead (m ∷ ms) connects level =
    ap (λ l. flat_map (member_faults l m.item.lead) (m ∷ ms)) level.0.0
    ∙ ap (λ l. flat_map (member_faults column l) (m ∷ ms)) level.0.1
    ∙ members_sound column lead (m ∷ ms) connects level

alone_sound : (m : Member) → m.item.lead ≡ Plain → block_faults true (m ∷ []) ≡ []
alone_sound m begins = ap (λ l. fault_if (is_connective l) BadIndent m.item.at ++ []) begins

level_sound : (column : ℕ) (lead : Join) (m : Member) (ms : List Member) → is_connective lead ≡ true → m.item.column ≡ column → m.item.lead ≡ Plain → StandAt column lead ms → block_faults true (m ∷ ms) ≡ []
level_sound column lead m [] connects at begins level = alone_sound m begins
level_sound column lead m (n ∷ ms) connects at begins level =
    ap (λ l. fault_if (is_connective l) BadIndent m.item.at ++ flat_map (member_faults m.item.column n.item.lead) (n ∷ ms)) begins
    ∙ ap (λ l. flat_map (member_faults l n.item.lead) (n ∷ ms)) at
    ∙ ap (λ l. flat_map (member_faults column l) (n ∷ ms)) level.0.1
    ∙ members_sound column lead (n ∷ ms) connects level

members_deeper : (low column : ℕ) (lead : Join) (es : List Entry) (ts : Trees) → IsMembers column lead es ts → AreDeeper low es → low < column
members_deeper low column lead es ts (last level begins ds u found) h = level_deeper low column lead ds u found h
members_deeper low column lead es ts (next level begins ds others u us found more_found) h = level_deeper low column lead ds u found (deeper_first low ds others h)

level_stops : (level : ℕ) (lead : Join) (ms rest : List Member) → no_items ms ≡ false → StandAt level lead ms → Stops level (ms ++ rest)
level_stops level lead [] rest some_items h = absurd (true≢false some_items)
level_stops level lead (m ∷ ms) rest some_items h = stand_stop level lead m ms rest h

mutual
  unfolding members_of each_fault

  member_found : (column : ℕ) (lead : Join) (es : List Entry) (t : Tree) → IsMember column lead es t → (rs : List Entry) → Stops column (members_of rs) → MemberFound column lead es rs t
  member_found column lead es t (a_sentence e deeper u opens all_deeper inner) rs stops =
      let b = block_found (Some e.inline) deeper u inner e.column all_deeper rs stops in
      let rest = members_of rs in
      record {
        m = member e b.ms (block (sentence e.inline ∷ []) b.ms);
        at = refl;
        begins = refl;
        plain = ap is_marker opens;
        deep = max_low e.column (deepest_of b.ms);
        tree = b.tree;
        members = ap (λ o. with_opener o e (members_of (deeper ++ rs))) opens ∙ ap (with_opener Nothing e) b.members ∙ taking_all e.column e (block (sentence e.inline ∷ [])) b.ms rest b.belong stops;
        faults = no_more_faults (opener_faults e.opens e (members_of (deeper ++ rs))) (each_fault (deeper ++ rs)) (each_fault rs)
            (ap (λ o. opener_faults o e (members_of (deeper ++ rs))) opens ∙ ap (opener_faults Nothing e) b.members ∙ ap headed_faults (inside-all e.column b.ms rest b.belong stops) ∙ b.sound)
            b.faults;
      }
  member_found column lead es t (a_negation e opens filled) rs stops =
      let rest = members_of rs in
      record {
        m = member e [] (negation e.own (block (inline_of e) []));
        at = refl;
        begins = refl;
        plain = ap is_marker opens;
        deep = max_low e.column 0;
        tree = ap (negation e.own) (ap (λ x. block x []) (ap (λ x. cond x [] (sentence e.inline ∷ [])) filled));
        members = ap (λ o. with_opener o e rest) opens ∙ taking_all e.column e (λ xs. negation e.own (block (inline_of e) xs)) [] rest tt stops;
        faults = no_more_faults (opener_faults e.opens e rest) (each_fault rs) (each_fault rs)
            (ap (λ o. opener_faults o e rest) opens ∙ ap (λ x. negation_faults x e (inside e.column rest)) filled ∙ ap nothing_below (inside-stop e.column rest stops))
            refl;
      }
  member_found column lead es t (a_negation_of_block e deeper u opens bare all_deeper inner) rs stops =
      let b = block_found None deeper u inner e.column all_deeper rs stops in
      let rest = members_of rs in
      record {
        m = member e b.ms (negation e.own (block (inline_of e) b.ms));
        at = refl;
        begins = refl;
        plain = ap is_marker opens;
        deep = max_low e.column (deepest_of b.ms);
        tree = ap (negation e.own) (ap (λ x. block x b.ms) (inline_head e None bare) ∙ b.tree);
        members = ap (λ o. with_opener o e (members_of (deeper ++ rs))) opens ∙ ap (with_opener Negation e) b.members ∙ taking_all e.column e (λ xs. negation e.own (block (inline_of e) xs)) b.ms rest b.belong stops;
        faults = no_more_faults (opener_faults e.opens e (members_of (deeper ++ rs))) (each_fault (deeper ++ rs)) (each_fault rs)
            (ap (λ o. opener_faults o e (members_of (deeper ++ rs))) opens ∙ ap (opener_faults Negation e) b.members
            ∙ ap (negation_faults (is_bare e) e) (inside-all e.column b.ms rest b.belong stops)
            ∙ ap (λ x. negation_faults x e b.ms) bare
            ∙ scope_sound e None b.ms bare b.filled b.sound)
            b.faults;
      }
  member_found column lead es t (a_gather e fold result name head deeper u opens heads all_deeper inner) rs stops =
      let b = block_found head deeper u inner e.column all_deeper rs stops in
      let rest = members_of rs in
      record {
        m = member e b.ms (gather e.own fold result name (block (inline_of e) b.ms));
        at = refl;
        begins = refl;
        plain = ap is_marker opens;
        deep = max_low e.column (deepest_of b.ms);
        tree = ap (gather e.own fold result name) (ap (λ x. block x b.ms) (inline_head e head heads) ∙ b.tree);
        members = ap (λ o. with_opener o e (members_of (deeper ++ rs))) opens ∙ ap (with_opener (Gather fold result name) e) b.members ∙ taking_all e.column e (λ xs. gather e.own fold result name (block (inline_of e) xs)) b.ms rest b.belong stops;
        faults = no_more_faults (opener_faults e.opens e (members_of (deeper ++ rs))) (each_fault (deeper ++ rs)) (each_fault rs)
            (ap (λ o. opener_faults o e (members_of (deeper ++ rs))) opens ∙ ap (opener_faults (Gather fold result name) e) b.members
            ∙ ap (scope_faults e) (inside-all e.column b.ms rest b.belong stops)
            ∙ scope_sound e head b.ms heads b.filled b.sound)
            b.faults;
      }
  member_found column lead es t (a_for_all e marker head second_head first second u w opens heads all_deeper inner marks order second_heads second_deeper second_inner) rs stops =
      let rest = members_of rs in
      let s = block_found second_head second w second_inner e.column second_deeper rs stops in
      let mm = member marker s.ms (block (inline_of marker) s.ms) in
      let behind_marker : members_of (marker ∷ second ++ rs) ≡ mm ∷ rest =
      ap (λ o. with_opener o marker (members_of (second ++ rs))) marks ∙ ap (with_opener (Second e.column) marker) s.members ∙ taking_all e.column marker (block (inline_of marker)) s.ms rest s.belong stops in
      let is_mark : is_marker marker.opens ≡ true = ap is_marker marks in
      let f = block_found head first u inner e.column all_deeper (marker ∷ second ++ rs) (subst (Stops e.column) (sym behind_marker) (ap (λ b. not b && ltb e.column marker.column) is_mark)) in
      let all_behind : members_of ((first ++ marker ∷ second) ++ rs) ≡ f.ms ++ mm ∷ rest =
      ap members_of (append_assoc first (marker ∷ second) rs) ∙ f.members ∙ ap (λ x. f.ms ++ x) behind_marker in
      record {
        m = member e (f.ms ++ mm ∷ []) (for_all e.own (block (inline_of e) f.ms) mm.tree);
        at = refl;
        begins = refl;
        plain = ap is_marker opens;
        deep = max_low e.column (deepest_of (f.ms ++ mm ∷ []));
        tree = ap (λ x. for_all e.own x mm.tree) (ap (λ x. block x f.ms) (inline_head e head heads) ∙ f.tree) ∙ ap (for_all e.own u) (ap (λ x. block x s.ms) (inline_head marker second_head second_heads) ∙ s.tree);
        members = ap (λ o. with_opener o e (members_of ((first ++ marker ∷ second) ++ rs))) opens ∙ ap (with_opener ForAll e) all_behind
            ∙ ap (λ xs. member e xs (with_second e.own (block (inline_of e) (before_marker (f.ms ++ mm ∷ rest))) (from_marker (f.ms ++ mm ∷ rest))) ∷ without_first (from_marker (f.ms ++ mm ∷ rest))) (through-all e.column f.ms mm rest f.belong is_mark)
            ∙ ap (λ xs. member e (f.ms ++ mm ∷ []) (with_second e.own (block (inline_of e) xs) (from_marker (f.ms ++ mm ∷ rest))) ∷ without_first (from_marker (f.ms ++ mm ∷ rest))) (before-all e.column f.ms mm rest f.belong is_mark)
            ∙ ap (λ xs. member e (f.ms ++ mm ∷ []) (with_second e.own (block (inline_of e) f.ms) xs) ∷ without_first xs) (from-all e.column f.ms mm rest f.belong is_mark);
        faults = no_more_faults (opener_faults e.opens e (members_of ((first ++ marker ∷ second) ++ rs))) (each_fault ((first ++ marker ∷ second) ++ rs)) (each_fault rs)
            (ap (λ o. opener_faults o e (members_of ((first ++ marker ∷ second) ++ rs))) opens ∙ ap (opener_faults ForAll e) all_behind
            ∙ ap (λ xs. marker_faults e xs ++ for_all_faults e (before_marker (f.ms ++ mm ∷ rest))) (from-all e.column f.ms mm rest f.belong is_mark)
            ∙ ap (λ b. fault_if b BadIndent marker.at ++ for_all_faults e (before_marker (f.ms ++ mm ∷ rest))) (le-ltb marker.column e.column order)
            ∙ ap (for_all_faults e) (before-all e.column f.ms mm rest f.belong is_mark)
            ∙ for_all_sound e head f.ms heads f.filled f.deep f.belong f.sound)
            (ap each_fault (append_assoc first (marker ∷ second) rs) ∙ f.faults
            ∙ no_more_faults (opener_faults marker.opens marker (members_of (second ++ rs))) (each_fault (second ++ rs)) (each_fault rs)
            (ap (λ o. opener_faults o marker (members_of (second ++ rs))) marks ∙ ap (opener_faults (Second e.column) marker) s.members
            ∙ ap (scope_faults marker) (inside-all e.column s.ms rest s.belong stops)
            ∙ scope_sound marker second_head s.ms second_heads s.filled s.sound)
            s.faults);
      }

  block_found : (head : Option Span) (es : List Entry) (t : Tree) → IsBlock head es t → (column : ℕ) → AreDeeper column es → (rs : List Entry) → Stops column (members_of rs) → BlockFound column head es rs t
  block_found head es t (head_alone s) column all_deeper rs stops = record {
    ms = [];
    belong = tt;
    deep = λ e. absurd (true≢false e);
    filled = λ e. absurd (true≢false (sym e));
    tree = refl;
    sound = refl;
    members = refl;
    faults = refl;
  }
  block_found head es t (head_with s level lead ds ts connects found) column all_deeper rs stops =
      let order = members_deeper column level lead ds ts found all_deeper in
      let b = members_found level lead ds ts found rs (deeper_stops column level (omega (arith, order)) (members_of rs) stops) in
      record {
        ms = b.ms;
        belong = stand_belong column level lead order b.ms b.level;
        deep = λ e. omega (arith, order, b.deep e);
        filled = λ e. absurd (true≢false (sym e));
        tree = ap (λ l. joined l (sentence s ∷ map (λ (m : Member). m.tree) b.ms)) (lead_of_first level lead b.ms b.filled b.level) ∙ joined_more lead (sentence s) b.ms ts b.filled b.trees;
        sound = headed_sound level lead b.ms connects b.level;
        members = b.members;
        faults = b.faults;
      }
  block_found head es t (one level ds u found) column all_deeper rs stops =
      let order = level_deeper column level Plain ds u found all_deeper in
      let b = member_found level Plain ds u found rs (deeper_stops column level (omega (arith, order)) (members_of rs) stops) in
      record {
        ms = b.m ∷ [];
        belong = stand_belong column level Plain order (b.m ∷ []) ((b.at, b.begins, b.plain), tt);
        deep = λ e. omega (arith, order, b.deep, max_low b.m.deepest 0);
        filled = λ e. refl;
        tree = b.tree;
        sound = alone_sound b.m b.begins;
        members = b.members;
        faults = b.faults;
      }
  block_found head es t (several level lead first others u ts connects found more_found) column all_deeper rs stops =
      let order = level_deeper column level Plain first u found (deeper_first column first others all_deeper) in
      let b = members_found level lead others ts more_found rs (deeper_stops column level (omega (arith, order)) (members_of rs) stops) in
      let a = member_found level Plain first u found (others ++ rs) (subst (Stops level) (sym b.members) (level_stops level lead b.ms (members_of rs) b.filled b.level)) in
      record {
        ms = a.m ∷ b.ms;
        belong = (ap (λ x. not x && ltb column a.m.item.column) a.plain ∙ lt-ltb column a.m.item.column (omega (arith, a.at, order)), stand_belong column level lead order b.ms b.level);
        deep = λ e. omega (arith, order, a.deep, max_low a.m.deepest (deepest_of b.ms));
        filled = λ e. refl;
        tree = ap (λ l. joined l (a.m.tree ∷ map (λ (m : Member). m.tree) b.ms)) (lead_of_first level lead b.ms b.filled b.level)
            ∙ ap (λ x. joined lead (x ∷ map (λ (m : Member). m.tree) b.ms)) a.tree
            ∙ joined_more lead u b.ms ts b.filled b.trees;
        sound = level_sound level lead a.m b.ms connects a.at a.begins b.level;
        members = ap members_of (append_assoc first others rs) ∙ a.members ∙ ap (λ xs. a.m ∷ xs) b.members;
        faults = ap each_fault (append_assoc first others rs) ∙ a.faults ∙ b.faults;
      }

  members_found : (level : ℕ) (lead : Join) (es : List Entry) (ts : Trees) → IsMembers level lead es ts → (rs : List Entry) → Stops level (members_of rs) → MembersFound level lead es rs ts
  members_found level lead es ts (last level2 lead2 ds u found) rs stops =
      let b = member_found level lead ds u found rs stops in
      record {
        ms = b.m ∷ [];
        level = ((b.at, b.begins, b.plain), tt);
        deep = λ e. omega (arith, b.deep, max_low b.m.deepest 0);
        filled = refl;
        trees = ap (λ x. more x none) b.tree;
        members = b.members;
        faults = b.faults;
      }
  members_found level lead es ts (next level2 lead2 ds others u us found more_found) rs stops =
      let b = members_found level lead others us more_found rs stops in
      let a = member_found level lead ds u found (others ++ rs) (subst (Stops level) (sym b.members) (level_stops level lead b.ms (members_of rs) b.filled b.level)) in
      record {
        ms = a.m ∷ b.ms;
        level = ((a.at, a.begins, a.plain), b.level);
        deep = λ e. omega (arith, a.deep, max_low a.m.deepest (deepest_of b.ms));
        filled = refl;
        trees = ap (λ x. more x (trees_of (map (λ (m : Member). m.tree) b.ms))) a.tree ∙ ap (more u) b.trees;
        members = ap members_of (append_assoc ds others rs) ∙ a.members ∙ ap (λ xs. a.m ∷ xs) b.members;
        faults = ap each_fault (append_assoc ds others rs) ∙ a.faults ∙ b.faults;
      }

-- A tree that the items of conditions have by the rules is the tree that is found, and nothing is wrong with them.
pub found_by_rules : (es : List Entry) (t : Tree) → IsBlock None es t → (tree_of es ≡ t) × (shape_faults es ≡ [])
unfolding members_of each_fault
found_by_rules es t (one level ds u found) =
    let a = member_found level Plain ds u found [] tt in
    let members : members_of es ≡ a.m ∷ [] = ap members_of (sym (append-nil es)) ∙ a.members in
    let faults : each_fault es ≡ [] = ap each_fault (sym (append-nil es)) ∙ a.faults in (
      ap (block []) members ∙ a.tree,
      ap (λ ms. block_faults true ms ++ each_fault es) members ∙ ap (λ fs. fs ++ each_fault es) (alone_sound a.m a.begins) ∙ faults,
    )
found_by_rules es t (several level lead first others u ts connects found more_found) =
    let b = members_found level lead others ts more_found [] tt in
    let a = member_found level Plain first u found (others ++ []) (subst (Stops level) (sym b.members) (level_stops level lead b.ms [] b.filled b.level)) in
    let bms : b.ms ++ [] ≡ b.ms = append-nil b.ms in
    let members : members_of es ≡ a.m ∷ b.ms = ap members_of (ap (λ xs. first ++ xs) (sym (append-nil others))) ∙ a.members ∙ ap (λ xs. a.m ∷ xs) (b.members ∙ bms) in
    let faults : each_fault es ≡ [] = ap each_fault (ap (λ xs. first ++ xs) (sym (append-nil others))) ∙ a.faults ∙ b.faults in (
      ap (block []) members
          ∙ ap (λ l. joined l (a.m.tree ∷ map (λ (m : Member). m.tree) b.ms)) (lead_of_first level lead b.ms b.filled b.level)
          ∙ ap (λ x. joined lead (x ∷ map (λ (m : Member). m.tree) b.ms)) a.tree
          ∙ joined_more lead u b.ms ts b.filled b.trees,
      ap (λ ms. block_faults true ms ++ each_fault es) members ∙ ap (λ fs. fs ++ each_fault es) (level_sound level lead a.m b.ms connects a.at a.begins b.level) ∙ faults,
    )

-- So items have at most one tree.
pub one_tree : (es : List Entry) (t u : Tree) → IsBlock None es t → IsBlock None es u → t ≡ u
one_tree es t u a b = sym (found_by_rules es t a).0 ∙ (found_by_rules es u b).0
