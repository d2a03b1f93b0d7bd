-- Where nothing is wrong with items, the tree that is found is one by the rules.
use Rattle.std.proofs.Common.{◌≡◌, ◌≤◌, ◌<◌, ℕ, ◌&&◌, ◌⊎◌, inl, inr, Bool, true, false, not, cond, ltb, leb, List, [], ◌∷◌, ◌++◌, map, flat_map, Option, Some, None, refl, sym, ap, ◌∙◌, subst, arith, append_assoc, append-nil}
use Rattle.std.proofs.lemmas.Bool.{and_parts, lt-ltb, le-ltb, ltb-true, ltb-false, leb-false, true≢false}
use Rattle.le_layout.specs.declared.span.Span.{Span}
use Rattle.le_base.specs.declared.code.Code.{Code}
use Rattle.le_base.specs.declared.code.Code.TheVariants.{BadIndent, MixedConnectives, NegationScope}
use Rattle.le_conds.specs.declared.entry.Join.{Join}
use Rattle.le_conds.specs.declared.entry.Join.TheVariants.{Plain, And, Or}
use Rattle.le_conds.specs.declared.entry.Opens.{Opens}
use Rattle.le_conds.specs.declared.entry.Opens.TheVariants.{Nothing, Negation, ForAll, Second, Stray, Gather}
use Rattle.le_conds.specs.declared.entry.Entry.{Entry}
use Rattle.le_conds.specs.Trees.{Tree, none, more, sentence, negation, for_all, gather}
use Rattle.le_conds.specs.Members.{Member, is_empty, is_marker, belongs, inside, following, before_marker, through_marker, from_marker, without_first, deepest_of, trees_of, inline_of, block, with_second, member, with_opener, members_of, tree_of}
use Rattle.le_conds.specs.Faults.{fault_if, is_connective, same_lead, member_faults, headed_faults, level_faults, first_is_plain, block_faults, nothing_below, is_bare, no_items, scope_faults, between_faults, marker_faults, for_all_faults, negation_faults, opener_faults, each_fault, shape_faults}
use Rattle.le_conds.specs.Blocks.{AreDeeper, HasHead, IsMember, IsBlock, IsMembers, a_sentence, a_negation, a_negation_of_block, a_gather, a_for_all, head_alone, head_with, one, several, last, next, IsMatched, AreMatched}
use Rattle.le_conds.proofs.BlockLaws.{Stops, Belong}

-- nothing is something
cons_not_nil : {X : Type 0} (x : X) (xs : List X) → x ∷ xs ≡ [] → ⊥
cons_not_nil x xs e = true≢false (sym (ap is_none e))
  where
    is_none : {X : Type 0} → List X → Bool
    is_none [] = true
    is_none (y ∷ ys) = false

pub nil_left : {X : Type 0} (xs ys : List X) → xs ++ ys ≡ [] → xs ≡ []
nil_left [] ys e = refl
nil_left (x ∷ xs) ys e = absurd (cons_not_nil x (xs ++ ys) e)

pub nil_right : {X : Type 0} (xs ys : List X) → xs ++ ys ≡ [] → ys ≡ []
nil_right [] ys e = e
nil_right (x ∷ xs) ys e = absurd (cons_not_nil x (xs ++ ys) e)

pub no_fault : (b : Bool) (code : Code) (place : ℕ) → fault_if b code place ≡ [] → b ≡ false
no_fault true code place e = absurd (cons_not_nil (record { code = code; place = place }) [] e)
no_fault false code place e = refl

not_false : (b : Bool) → not b ≡ false → b ≡ true
not_false true e = refl
not_false false e = absurd (true≢false e)

same_leads : (a b : Join) → same_lead a b ≡ true → a ≡ b
same_leads Plain Plain e = refl
same_leads Plain And e = absurd (true≢false (sym e))
same_leads Plain Or e = absurd (true≢false (sym e))
same_leads And And e = refl
same_leads And Plain e = absurd (true≢false (sym e))
same_leads And Or e = absurd (true≢false (sym e))
same_leads Or Or e = refl
same_leads Or Plain e = absurd (true≢false (sym e))
same_leads Or And e = absurd (true≢false (sym e))

plain_lead : (a : Join) → is_connective a ≡ false → a ≡ Plain
plain_lead Plain e = refl
plain_lead And e = absurd (true≢false e)
plain_lead Or e = absurd (true≢false e)

-- items one after another are deeper where both are
deeper_both : (low : ℕ) (es ds : List Entry) → AreDeeper low es → AreDeeper low ds → AreDeeper low (es ++ ds)
deeper_both low [] ds h k = k
deeper_both low (e ∷ es) ds h k = (h.0, deeper_both low es ds h.1 k)

deeper_than : (low high : ℕ) (es : List Entry) → low < high → AreDeeper high es → AreDeeper low es
deeper_than low high [] order h = tt
deeper_than low high (e ∷ es) order h = (omega (arith, order, h.0), deeper_than low high es order h.1)

-- all items of a member at a deeper column are deeper
member_deeper : (low column : ℕ) (lead : Join) (es : List Entry) (t : Tree) → IsMember column lead es t → low < column → AreDeeper low es
member_deeper low column lead es t (a_sentence e deeper u opens all_deeper inner) order = (order, deeper_than low e.column deeper order all_deeper)
member_deeper low column lead es t (a_negation e opens filled) order = (order, tt)
member_deeper low column lead es t (a_negation_of_block e deeper u opens bare all_deeper inner) order = (order, deeper_than low e.column deeper order all_deeper)
member_deeper low column lead es t (a_gather e fold result name head deeper u opens heads all_deeper inner) order = (order, deeper_than low e.column deeper order all_deeper)
member_deeper low column lead es t (a_for_all e marker head second_head first second u w opens heads all_deeper inner marks high second_heads second_deeper second_inner) order =
    (order, deeper_both low first (marker ∷ second) (deeper_than low e.column first order all_deeper) (omega (arith, order, high), deeper_than low e.column second order second_deeper))

-- items that make these members, one after another, none of which is deeper than the one before it
pub data Chain : List Entry → List Member → Type 0 where
  empty : Chain [] []
  link : (m : Member) (es others : List Entry) (ms : List Member) → IsMember m.item.column m.item.lead es m.tree → is_marker m.item.opens ≡ false → Stops m.item.column ms → Chain others ms → Chain (es ++ others) (m ∷ ms)

chain_deeper : (low : ℕ) (es : List Entry) (ms : List Member) → Chain es ms → Belong low ms → AreDeeper low es
chain_deeper low es ms empty all_in = tt
chain_deeper low es ms (link m ds others rest is plain stops chain) all_in =
    deeper_both low ds others (member_deeper low m.item.column m.item.lead ds m.tree is (ltb-true low m.item.column (and_parts (not (is_marker m.item.opens)) (ltb low m.item.column) all_in.0).1)) (chain_deeper low others rest chain all_in.1)

-- a member that isn't refused in a block stands at its level with its connective
record IsSound (level : ℕ) (lead : Join) (m : Member) : Type 0 where
  not_less : level ≤ m.item.column
  connects : is_connective m.item.lead ≡ true
  same : m.item.lead ≡ lead

sound_member : (level : ℕ) (lead : Join) (m : Member) → is_marker m.item.opens ≡ false → member_faults level lead m ≡ [] → IsSound level lead m
sound_member level lead m plain sound =
    let refused = cond (ltb m.item.column level) (fault_if true BadIndent m.item.at) (fault_if (not (is_connective m.item.lead && same_lead m.item.lead lead)) MixedConnectives m.item.at) in
    let e : refused ≡ [] = sym (ap (λ b. cond b [] refused) plain) ∙ sound in
    at_level (ltb m.item.column level) refl e
  where
    at_level : (b : Bool) → ltb m.item.column level ≡ b → cond b (fault_if true BadIndent m.item.at) (fault_if (not (is_connective m.item.lead && same_lead m.item.lead lead)) MixedConnectives m.item.at) ≡ [] → IsSound level lead m
    at_level true is e = absurd (cons_not_nil (record { code = BadIndent; place = m.item.at }) [] e)
    at_level false is e =
        let both = and_parts (is_connective m.item.lead) (same_lead m.item.lead lead) (not_false (is_connective m.item.lead && same_lead m.item.lead lead) (no_fault (not (is_connective m.item.lead && same_lead m.item.lead lead)) MixedConnectives m.item.at e)) in
        record { not_less = ltb-false m.item.column level is; connects = both.0; same = same_leads m.item.lead lead both.1 }

-- what stops a scope is no deeper
stopped : (level : ℕ) (m : Member) → is_marker m.item.opens ≡ false → belongs level m ≡ false → m.item.column ≤ level
stopped level m plain stop = ltb-false level m.item.column (sym (ap (λ b. not b && ltb level m.item.column) plain) ∙ stop)

no_chain : (es : List Entry) (ms : List Member) → Chain es ms → no_items ms ≡ true → es ≡ []
no_chain es ms empty e = refl
no_chain es ms (link m ds others rest is plain stops chain) e = absurd (true≢false (sym e))

then_members : (level : ℕ) (lead : Join) (ds others : List Entry) (u : Tree) (rest : List Member) → IsMember level lead ds u → (no_items rest ≡ true → others ≡ []) → (no_items rest ≡ false → IsMembers level lead others (trees_of (map (λ (x : Member). x.tree) rest))) → IsMembers level lead (ds ++ others) (more u (trees_of (map (λ (x : Member). x.tree) rest)))
then_members level lead ds others u [] is nothing further =
    subst (λ xs. IsMembers level lead xs (more u none)) (sym (ap (λ ys. ds ++ ys) (nothing refl) ∙ append-nil ds)) (last level lead ds u is)
then_members level lead ds others u (m ∷ rest) is nothing further = next level lead ds others u (trees_of (map (λ (x : Member). x.tree) (m ∷ rest))) is (further refl)

-- members of a chain without a fault are members by the rules
chain_members : (level : ℕ) (lead : Join) (es : List Entry) (ms : List Member) → Chain es ms → no_items ms ≡ false → Stops level ms → flat_map (member_faults level lead) ms ≡ [] → IsMembers level lead es (trees_of (map (λ (x : Member). x.tree) ms))
chain_members level lead es ms empty filled stops sound = absurd (true≢false filled)
chain_members level lead es ms (link m ds others rest is plain stop chain) filled stops sound =
    let s = sound_member level lead m plain (nil_left (member_faults level lead m) (flat_map (member_faults level lead) rest) sound) in
    let at : m.item.column ≡ level = omega (arith, s.not_less, stopped level m plain stops) in
    then_members level lead ds others m.tree rest
    (subst (λ l. IsMember level l ds m.tree) s.same (subst (λ c. IsMember c m.item.lead ds m.tree) at is))
    (no_chain others rest chain)
    (λ e. chain_members level lead others rest chain e (subst (λ c. Stops c rest) at stop) (nil_right (member_faults level lead m) (flat_map (member_faults level lead) rest) sound))

-- the second member of a block without a fault has a connective
chain_connects : (level : ℕ) (lead : Join) (es : List Entry) (m : Member) (rest : List Member) → Chain es (m ∷ rest) → flat_map (member_faults level lead) (m ∷ rest) ≡ [] → is_connective lead ≡ true
chain_connects level lead es m rest chain sound =
    let s = sound_member level lead m (chain_plain es (m ∷ rest) chain) (nil_left (member_faults level lead m) (flat_map (member_faults level lead) rest) sound) in
    ap is_connective (sym s.same) ∙ s.connects
  where
    first_plain : List Member → Type 0
    first_plain [] = Unit {0}
    first_plain (m ∷ rest) = is_marker m.item.opens ≡ false

    chain_plain : (es : List Entry) (ms : List Member) → Chain es ms → first_plain ms
    chain_plain es ms empty = tt
    chain_plain es ms (link m ds others rest is plain stop chain) = plain

-- A block without a fault is one by the rules.
headed_block : (s : Span) (es : List Entry) (ms : List Member) → Chain es ms → headed_faults ms ≡ [] → IsBlock (Some s) es (block (sentence s ∷ []) ms)
headed_block s es [] chain sound = subst (λ xs. IsBlock (Some s) xs (sentence s)) (sym (no_chain es [] chain refl)) (head_alone s)
headed_block s es (m ∷ ms) chain sound =
    head_with s m.item.column m.item.lead es (trees_of (map (λ (x : Member). x.tree) (m ∷ ms)))
    (chain_connects m.item.column m.item.lead es m ms chain sound)
    (chain_members m.item.column m.item.lead es (m ∷ ms) chain refl (at_itself m) sound)
  where
    and_false : (b : Bool) → (b && false) ≡ false
    and_false true = refl
    and_false false = refl

    at_itself : (m : Member) → belongs m.item.column m ≡ false
    at_itself m = ap (λ b. not (is_marker m.item.opens) && b) (le-ltb m.item.column m.item.column (omega arith)) ∙ and_false (not (is_marker m.item.opens))

by_rest : (ds others : List Entry) (m : Member) (rest : List Member) → IsMember m.item.column Plain ds m.tree → Stops m.item.column rest → Chain others rest → level_faults (m ∷ rest) ≡ [] → IsBlock None (ds ++ others) (block [] (m ∷ rest))
by_rest ds others m [] is stop chain sound =
    subst (λ xs. IsBlock None xs m.tree) (sym (ap (λ ys. ds ++ ys) (no_chain others [] chain refl) ∙ append-nil ds)) (one m.item.column ds m.tree is)
by_rest ds others m (n ∷ rest) is stop chain sound =
    several m.item.column n.item.lead ds others m.tree (trees_of (map (λ (x : Member). x.tree) (n ∷ rest)))
    (chain_connects m.item.column n.item.lead others n rest chain sound)
    is
    (chain_members m.item.column n.item.lead others (n ∷ rest) chain refl stop sound)

plain_block : (es : List Entry) (ms : List Member) → Chain es ms → no_items ms ≡ false → block_faults true ms ≡ [] → IsBlock None es (block [] ms)
plain_block es ms empty filled sound = absurd (true≢false filled)
plain_block es ms (link m ds others rest is plain stop chain) filled sound =
    by_rest ds others m rest
    (subst (λ l. IsMember m.item.column l ds m.tree) (plain_lead m.item.lead (no_fault (is_connective m.item.lead) BadIndent m.item.at (nil_left (first_is_plain (m ∷ rest)) (level_faults (m ∷ rest)) sound))) is)
    stop chain
    (nil_right (first_is_plain (m ∷ rest)) (level_faults (m ∷ rest)) sound)

-- the head that an opener gives its block
pub head_of : Entry → Option Span
head_of e = cond (is_empty e.inline) None (Some e.inline)

has_head : (e : Entry) → HasHead e (head_of e)
unfolding head_of
has_head e = by_empty e (is_empty e.inline) refl
  where
    by_empty : (e : Entry) (b : Bool) → is_empty e.inline ≡ b → HasHead e (cond b None (Some e.inline))
    by_empty e true is = is
    by_empty e false is = (is, refl)

-- the block in a scope without a fault
opener_block : (e : Entry) (es : List Entry) (ms : List Member) → Chain es ms → (is_bare e ≡ true → no_items ms ≡ false) → block_faults (is_bare e) ms ≡ [] → IsBlock (head_of e) es (block (inline_of e) ms)
unfolding head_of
opener_block e es ms chain filled sound = by_bare (is_empty e.inline) filled sound
  where
    by_bare : (b : Bool) → (b ≡ true → no_items ms ≡ false) → block_faults b ms ≡ [] → IsBlock (cond b None (Some e.inline)) es (block (cond b [] (sentence e.inline ∷ [])) ms)
    by_bare true filled sound = plain_block es ms chain (filled refl) sound
    by_bare false filled sound = headed_block e.inline es ms chain sound

-- Items and the members that they make, with the markers among them, which are those of `for all`s of these columns before them.
pub data Pending : List ℕ → List Entry → List Member → Type 0 where
  nothing : (columns : List ℕ) → Pending columns [] []
  waits : (columns : List ℕ) (m : Member) (es others : List Entry) (ms : List Member) → IsMember m.item.column m.item.lead es m.tree → is_marker m.item.opens ≡ false → Stops m.item.column ms → Pending columns others ms → Pending columns (es ++ others) (m ∷ ms)
  marks : (column : ℕ) (columns : List ℕ) (m : Member) (second others : List Entry) (ms : List Member) → m.item.opens ≡ Second column → AreDeeper column second → IsBlock (head_of m.item) second m.tree → Stops column ms → Pending columns others ms → Pending (column ∷ columns) (m.item ∷ second ++ others) (m ∷ ms)

-- what belongs to a scope, and what stands after it
record Split (low : ℕ) (columns : List ℕ) (es : List Entry) (ms : List Member) : Type 0 where
  inner : List Entry
  outer : List Entry
  same : es ≡ inner ++ outer
  chain : Chain inner (inside low ms)
  belong : Belong low (inside low ms)
  rest : Pending columns outer (following low ms)
  stops : Stops low (following low ms)

-- what stops a member stops it among those of a scope
inside_stops : (column low : ℕ) (ms : List Member) → Stops column ms → Stops column (inside low ms)
inside_stops column low [] stops = tt
inside_stops column low (m ∷ ms) stops = by_test (belongs low m)
  where
    by_test : (b : Bool) → Stops column (cond b (m ∷ inside low ms) [])
    by_test true = stops
    by_test false = tt

split_here : (low : ℕ) (columns : List ℕ) (m : Member) (ds others : List Entry) (ms : List Member) → IsMember m.item.column m.item.lead ds m.tree → is_marker m.item.opens ≡ false → Stops m.item.column ms → Pending columns others ms → Split low columns others ms → (b : Bool) → belongs low m ≡ b
    → (inner outer : List Entry) × (ds ++ others ≡ inner ++ outer) × Chain inner (cond b (m ∷ inside low ms) []) × Belong low (cond b (m ∷ inside low ms) []) × Pending columns outer (cond b (following low ms) (m ∷ ms)) × Stops low (cond b (following low ms) (m ∷ ms))
split_here low columns m ds others ms is plain stop pending s true belongs_it = (
  ds ++ s.inner,
  s.outer,
  ap (λ xs. ds ++ xs) s.same ∙ sym (append_assoc ds s.inner s.outer),
  link m ds s.inner (inside low ms) is plain (inside_stops m.item.column low ms stop) s.chain,
  (belongs_it, s.belong),
  s.rest,
  s.stops,
)
split_here low columns m ds others ms is plain stop pending s false belongs_it =
    ([], ds ++ others, refl, empty, tt, waits columns m ds others ms is plain stop pending, belongs_it)

split_at : (low : ℕ) (columns : List ℕ) (es : List Entry) (ms : List Member) → Pending columns es ms → Split low columns es ms
split_at low columns es ms (nothing cs) = record { inner = []; outer = []; same = refl; chain = empty; belong = tt; rest = nothing columns; stops = tt }
split_at low columns es ms (waits cs m ds others rest is plain stop pending) =
    let found = split_here low columns m ds others rest is plain stop pending (split_at low columns others rest pending) (belongs low m) refl in
    record { inner = found.0; outer = found.1; same = found.2; chain = found.3; belong = found.4; rest = found.5; stops = found.6 }
split_at low columns es ms (marks column cs m second others rest opens all_deeper is stop pending) =
    let no_more : belongs low m ≡ false = ap (λ o. not (is_marker o) && ltb low m.item.column) opens in
    record {
      inner = [];
      outer = es;
      same = refl;
      chain = subst (Chain []) (sym (ap (λ b. cond b (m ∷ inside low rest) []) no_more)) empty;
      belong = subst (Belong low) (sym (ap (λ b. cond b (m ∷ inside low rest) []) no_more)) tt;
      rest = subst (Pending columns es) (sym (ap (λ b. cond b (following low rest) (m ∷ rest)) no_more)) (marks column cs m second others rest opens all_deeper is stop pending);
      stops = subst (Stops low) (sym (ap (λ b. cond b (following low rest) (m ∷ rest)) no_more)) no_more;
    }

-- The first marker following a `for all`, with what stands before it, in its block and after that.
record AtMarker (all_columns : List ℕ) (es : List Entry) (ms : List Member) : Type 0 where
  column : ℕ
  columns : List ℕ
  of : all_columns ≡ column ∷ columns
  first : List Entry
  second : List Entry
  outer : List Entry
  m : Member
  rest : List Member
  same : es ≡ first ++ (m.item ∷ (second ++ outer))
  chain : Chain first (before_marker ms)
  begins : from_marker ms ≡ m ∷ rest
  opens : m.item.opens ≡ Second column
  all_deeper : AreDeeper column second
  is : IsBlock (head_of m.item) second m.tree
  stops : Stops column rest
  pending : Pending columns outer rest

before_stops : (column : ℕ) (ms : List Member) → Stops column ms → Stops column (before_marker ms)
before_stops column [] stops = tt
before_stops column (m ∷ ms) stops = by_test (is_marker m.item.opens)
  where
    by_test : (b : Bool) → Stops column (cond b [] (m ∷ before_marker ms))
    by_test true = tt
    by_test false = stops

marker_behind : (all_columns : List ℕ) (m : Member) (ds others : List Entry) (ms : List Member) → IsMember m.item.column m.item.lead ds m.tree → is_marker m.item.opens ≡ false → Stops m.item.column ms → (from_marker ms ≡ []) ⊎ AtMarker all_columns others ms → (from_marker (m ∷ ms) ≡ []) ⊎ AtMarker all_columns (ds ++ others) (m ∷ ms)
marker_behind all_columns m ds others ms is plain stop (inl none_left) = inl (ap (λ b. cond b (m ∷ ms) (from_marker ms)) plain ∙ none_left)
marker_behind all_columns m ds others ms is plain stop (inr a) = inr (record {
  column = a.column;
  columns = a.columns;
  of = a.of;
  first = ds ++ a.first;
  second = a.second;
  outer = a.outer;
  m = a.m;
  rest = a.rest;
  same = ap (λ xs. ds ++ xs) a.same ∙ sym (append_assoc ds a.first (a.m.item ∷ (a.second ++ a.outer)));
  chain = subst (Chain (ds ++ a.first)) (sym (ap (λ b. cond b [] (m ∷ before_marker ms)) plain)) (link m ds a.first (before_marker ms) is plain (before_stops m.item.column ms stop) a.chain);
  begins = ap (λ b. cond b (m ∷ ms) (from_marker ms)) plain ∙ a.begins;
  opens = a.opens;
  all_deeper = a.all_deeper;
  is = a.is;
  stops = a.stops;
  pending = a.pending;
})

at_marker : (columns : List ℕ) (es : List Entry) (ms : List Member) → Pending columns es ms → (from_marker ms ≡ []) ⊎ AtMarker columns es ms
at_marker columns es ms (nothing cs) = inl refl
at_marker columns es ms (waits cs m ds others rest is plain stop pending) = marker_behind columns m ds others rest is plain stop (at_marker columns others rest pending)
at_marker columns es ms (marks column cs m second others rest opens all_deeper is stop pending) =
    let is_mark : is_marker m.item.opens ≡ true = ap is_marker opens in
    inr (record {
      column = column;
      columns = cs;
      of = refl;
      first = [];
      second = second;
      outer = others;
      m = m;
      rest = rest;
      same = refl;
      chain = subst (Chain []) (sym (ap (λ b. cond b [] (m ∷ before_marker rest)) is_mark)) empty;
      begins = ap (λ b. cond b (m ∷ rest) (from_marker rest)) is_mark;
      opens = opens;
      all_deeper = all_deeper;
      is = is;
      stops = stop;
      pending = pending;
    })

scope_filled : (e : Entry) (ms : List Member) → scope_faults e ms ≡ [] → is_bare e ≡ true → no_items ms ≡ false
scope_filled e ms sound bare =
    sym (ap (λ b. b && no_items ms) bare) ∙ no_fault (is_bare e && no_items ms) BadIndent e.own (nil_left (fault_if (is_bare e && no_items ms) BadIndent e.own) (block_faults (is_bare e) ms) sound)

scope_block : (e : Entry) (ms : List Member) → scope_faults e ms ≡ [] → block_faults (is_bare e) ms ≡ []
scope_block e ms sound = nil_right (fault_if (is_bare e && no_items ms) BadIndent e.own) (block_faults (is_bare e) ms) sound

chain_belong : (column : ℕ) (es : List Entry) (ms : List Member) → Chain es ms → flat_map (between_faults column) ms ≡ [] → Belong column ms
chain_belong column es ms empty sound = tt
chain_belong column es ms (link m ds others rest is plain stop chain) sound = (
  ap (λ b. not b && ltb column m.item.column) plain
      ∙ lt-ltb column m.item.column (leb-false m.item.column column (no_fault (leb m.item.column column) BadIndent m.item.at (nil_left (between_faults column m) (flat_map (between_faults column) rest) sound))),
  chain_belong column others rest chain (nil_right (between_faults column m) (flat_map (between_faults column) rest) sound),
)

deep_filled : (column : ℕ) (ms : List Member) → leb (deepest_of ms) column ≡ false → no_items ms ≡ false
deep_filled column [] e = absurd (nat_none (leb-false 0 column e))
  where
    nat_none : column < 0 → ⊥
    nat_none h = omega arith
deep_filled column (m ∷ ms) e = refl

below_none : (ms : List Member) → nothing_below ms ≡ [] → no_items ms ≡ true
below_none [] e = refl
below_none (m ∷ ms) e = absurd (cons_not_nil (record { code = NegationScope; place = m.item.at }) [] e)

none_there : (ms : List Member) → no_items ms ≡ true → ms ≡ []
none_there [] e = refl
none_there (m ∷ ms) e = absurd (true≢false (sym e))

abbrev first_column : List ℕ → ℕ
first_column [] = 0
first_column (c ∷ cs) = c

abbrev further_columns : List ℕ → List ℕ
further_columns [] = []
further_columns (c ∷ cs) = cs

negation_member : (e : Entry) (inner : List Entry) (ms : List Member) → e.opens ≡ Negation → Chain inner ms → AreDeeper e.column inner → (b : Bool) → is_bare e ≡ b → negation_faults b e ms ≡ [] → IsMember e.column e.lead (e ∷ inner) (negation e.own (block (inline_of e) ms))
negation_member e inner ms opens chain all_deeper true bare sound =
    a_negation_of_block e inner (block (inline_of e) ms) opens bare all_deeper
    (subst (λ xs. IsBlock None inner (block xs ms)) (sym (ap (λ b. cond b [] (sentence e.inline ∷ [])) bare))
    (plain_block inner ms chain (scope_filled e ms sound bare) (subst (λ b. block_faults b ms ≡ []) bare (scope_block e ms sound))))
negation_member e inner ms opens chain all_deeper false bare sound =
    let e1 : ms ≡ [] = none_there ms (below_none ms sound) in
    let e2 : inner ≡ [] = no_chain inner ms chain (below_none ms sound) in
    subst (λ xs. IsMember e.column e.lead (e ∷ xs) (negation e.own (block (inline_of e) ms))) (sym e2)
    (subst (λ t. IsMember e.column e.lead (e ∷ []) (negation e.own t)) (sym (ap (λ xs. block (inline_of e) xs) e1 ∙ ap (λ xs. block xs []) (ap (λ b. cond b [] (sentence e.inline ∷ [])) bare)))
    (a_negation e opens bare))

step : (columns : List ℕ) (e : Entry) (es : List Entry) (ms : List Member) (o : Opens) → e.opens ≡ o → IsMatched o e.column columns (λ others. AreMatched others es) → opener_faults o e ms ≡ [] → ((cs : List ℕ) → AreMatched cs es → Pending cs es ms) → Pending columns (e ∷ es) (with_opener o e ms)
step columns e es ms Nothing opens matched sound rec =
    let s = split_at e.column columns es ms (rec columns matched) in
    subst (λ xs. Pending columns (e ∷ xs) (with_opener Nothing e ms)) (sym s.same)
    (waits columns (member e (inside e.column ms) (block (sentence e.inline ∷ []) (inside e.column ms))) (e ∷ s.inner) s.outer (following e.column ms)
    (a_sentence e s.inner (block (sentence e.inline ∷ []) (inside e.column ms)) opens (chain_deeper e.column s.inner (inside e.column ms) s.chain s.belong) (headed_block e.inline s.inner (inside e.column ms) s.chain sound))
    (ap is_marker opens) s.stops s.rest)
step columns e es ms Negation opens matched sound rec =
    let s = split_at e.column columns es ms (rec columns matched) in
    subst (λ xs. Pending columns (e ∷ xs) (with_opener Negation e ms)) (sym s.same)
    (waits columns (member e (inside e.column ms) (negation e.own (block (inline_of e) (inside e.column ms)))) (e ∷ s.inner) s.outer (following e.column ms)
    (negation_member e s.inner (inside e.column ms) opens s.chain (chain_deeper e.column s.inner (inside e.column ms) s.chain s.belong) (is_bare e) refl sound)
    (ap is_marker opens) s.stops s.rest)
step columns e es ms (Gather fold result name) opens matched sound rec =
    let s = split_at e.column columns es ms (rec columns matched) in
    subst (λ xs. Pending columns (e ∷ xs) (with_opener (Gather fold result name) e ms)) (sym s.same)
    (waits columns (member e (inside e.column ms) (gather e.own fold result name (block (inline_of e) (inside e.column ms)))) (e ∷ s.inner) s.outer (following e.column ms)
    (a_gather e fold result name (head_of e) s.inner (block (inline_of e) (inside e.column ms)) opens (has_head e) (chain_deeper e.column s.inner (inside e.column ms) s.chain s.belong)
    (opener_block e s.inner (inside e.column ms) s.chain (scope_filled e (inside e.column ms) sound) (scope_block e (inside e.column ms) sound)))
    (ap is_marker opens) s.stops s.rest)
step [] e es ms (Second c) opens matched sound rec = absurd matched
step (d ∷ columns) e es ms (Second c) opens matched sound rec =
    let s = split_at c columns es ms (rec columns matched.1) in
    subst (λ x. Pending (x ∷ columns) (e ∷ es) (with_opener (Second c) e ms)) matched.0
    (subst (λ xs. Pending (c ∷ columns) (e ∷ xs) (with_opener (Second c) e ms)) (sym s.same)
    (marks c columns (member e (inside c ms) (block (inline_of e) (inside c ms))) s.inner s.outer (following c ms) opens (chain_deeper c s.inner (inside c ms) s.chain s.belong)
    (opener_block e s.inner (inside c ms) s.chain (scope_filled e (inside c ms) sound) (scope_block e (inside c ms) sound))
    s.stops s.rest))
step columns e es ms Stray opens matched sound rec = absurd (cons_not_nil (record { code = BadIndent; place = e.own }) [] sound)
step columns e es ms ForAll opens matched sound rec = by_marker (at_marker (e.column ∷ columns) es ms (rec (e.column ∷ columns) matched))
  where
    first_sound : marker_faults e (from_marker ms) ≡ []
    first_sound = nil_left (marker_faults e (from_marker ms)) (for_all_faults e (before_marker ms)) sound

    inner_sound : for_all_faults e (before_marker ms) ≡ []
    inner_sound = nil_right (marker_faults e (from_marker ms)) (for_all_faults e (before_marker ms)) sound

    by_marker : (from_marker ms ≡ []) ⊎ AtMarker (e.column ∷ columns) es ms → Pending columns (e ∷ es) (with_opener ForAll e ms)
    by_marker (inl none_left) = absurd (cons_not_nil (record { code = BadIndent; place = e.own }) [] (ap (marker_faults e) (sym none_left) ∙ first_sound))
    by_marker (inr a) =
        let fs = before_marker ms in
        let ts = through_marker ms in
        let bare_fault = fault_if (is_bare e && leb (deepest_of fs) e.column) BadIndent e.own in
        let others_sound = nil_right bare_fault (flat_map (between_faults e.column) fs ++ block_faults (is_bare e) fs) inner_sound in
        let between = nil_left (flat_map (between_faults e.column) fs) (block_faults (is_bare e) fs) others_sound in
        let blocks = nil_right (flat_map (between_faults e.column) fs) (block_faults (is_bare e) fs) others_sound in
        let filled = λ (bare : is_bare e ≡ true). deep_filled e.column fs (sym (ap (λ b. b && leb (deepest_of fs) e.column) bare) ∙ no_fault (is_bare e && leb (deepest_of fs) e.column) BadIndent e.own (nil_left bare_fault (flat_map (between_faults e.column) fs ++ block_faults (is_bare e) fs) inner_sound)) in
        let at : a.column ≡ e.column = ap first_column (sym a.of) in
        let left : a.columns ≡ columns = ap further_columns (sym a.of) in
        let high : e.column ≤ a.m.item.column = ltb-false a.m.item.column e.column (no_fault (ltb a.m.item.column e.column) BadIndent a.m.item.at (ap (marker_faults e) (sym a.begins) ∙ first_sound)) in
        let tree = for_all e.own (block (inline_of e) fs) a.m.tree in
        let is : IsMember e.column e.lead (e ∷ (a.first ++ (a.m.item ∷ a.second))) tree =
        a_for_all e a.m.item (head_of e) (head_of a.m.item) a.first a.second (block (inline_of e) fs) a.m.tree opens (has_head e)
        (chain_deeper e.column a.first fs a.chain (chain_belong e.column a.first fs a.chain between))
        (opener_block e a.first fs a.chain filled blocks)
        (a.opens ∙ ap Second at) high (has_head a.m.item) (subst (λ c. AreDeeper c a.second) at a.all_deeper) a.is in
        let found : Pending columns ((e ∷ (a.first ++ (a.m.item ∷ a.second))) ++ a.outer) (member e ts tree ∷ a.rest) =
        waits columns (member e ts tree) (e ∷ (a.first ++ (a.m.item ∷ a.second))) a.outer a.rest is (ap is_marker opens) (subst (λ c. Stops c a.rest) at a.stops) (subst (λ cs. Pending cs a.outer a.rest) left a.pending) in
        subst (λ xs. Pending columns (e ∷ xs) (with_opener ForAll e ms)) (append_assoc a.first (a.m.item ∷ a.second) a.outer ∙ sym a.same)
        (subst (Pending columns ((e ∷ (a.first ++ (a.m.item ∷ a.second))) ++ a.outer))
        (sym (ap (λ xs. member e ts (with_second e.own (block (inline_of e) fs) xs) ∷ without_first xs) a.begins))
        found)

pub pending : (columns : List ℕ) (es : List Entry) → AreMatched columns es → each_fault es ≡ [] → Pending columns es (members_of es)
unfolding members_of each_fault
pending columns [] matched sound = nothing columns
pending columns (e ∷ es) matched sound =
    step columns e es (members_of es) e.opens refl matched (nil_left (opener_faults e.opens e (members_of es)) (each_fault es) sound)
    (λ cs m. pending cs es m (nil_right (opener_faults e.opens e (members_of es)) (each_fault es) sound))

pending_chain : (columns : List ℕ) (es : List Entry) (ms : List Member) → Pending columns es ms → columns ≡ [] → Chain es ms
pending_chain columns es ms (nothing cs) none_open = empty
pending_chain columns es ms (waits cs m ds others rest is plain stop waiting) none_open = link m ds others rest is plain stop (pending_chain columns others rest waiting none_open)
pending_chain columns es ms (marks column cs m second others rest opens all_deeper is stop waiting) none_open = absurd (cons_not_nil column cs none_open)

some_members : (e : Entry) (es : List Entry) → no_items (members_of (e ∷ es)) ≡ false
unfolding members_of
some_members e es = by_opener e.opens
  where
    by_opener : (o : Opens) → no_items (with_opener o e (members_of es)) ≡ false
    by_opener Nothing = refl
    by_opener Negation = refl
    by_opener (Gather fold result name) = refl
    by_opener (Second c) = refl
    by_opener Stray = refl
    by_opener ForAll = refl

-- Where nothing is wrong with the items of conditions, the tree that is found is theirs by the rules.
pub rules_found : (e : Entry) (es : List Entry) → AreMatched [] (e ∷ es) → shape_faults (e ∷ es) ≡ [] → IsBlock None (e ∷ es) (tree_of (e ∷ es))
rules_found e es matched sound =
    plain_block (e ∷ es) (members_of (e ∷ es))
    (pending_chain [] (e ∷ es) (members_of (e ∷ es)) (pending [] (e ∷ es) matched (nil_right (block_faults true (members_of (e ∷ es))) (each_fault (e ∷ es)) sound)) refl)
    (some_members e es)
    (nil_left (block_faults true (members_of (e ∷ es))) (each_fault (e ∷ es)) sound)
