-- What holds of the conditions of items with which nothing is wrong.
use Rattle.std.proofs.Common.{◌≡◌, ◌≤◌, ◌<◌, ◌+◌, ◌-◌, ◌*◌, ℕ, zero, suc, Bool, true, false, cond, List, [], ◌∷◌, ◌++◌, length, flat_map, map, Option, Some, None, refl, sym, ap, ◌∙◌, subst, arith, length-append}
use Rattle.std.specs.List.{All}
use Rattle.std.proofs.lemmas.Bool.{leb-false, ltb-false}
use Rattle.std.proofs.lemmas.Option.{none-some}
use Rattle.std.proofs.lemmas.List.{length-reverse}
use Rattle.std.proofs.lemmas.List.Elements.{All-nil, All-cons, All-append, All-head, All-tail}
use Rattle.le_layout.specs.declared.span.Span.{Span}
use Rattle.le_base.specs.declared.code.Code.TheVariants.{BadIndent, LongSentence, NegationScope}
use Rattle.le_layout.specs.declared.layout.Layout.{Layout}
use Rattle.le_conds.specs.declared.cond.Conds.{Conds}
use Rattle.le_conds.specs.declared.cond.CondKind.TheVariants as kinds
use Rattle.le_conds.specs.declared.item.Lead.{Lead}
use Rattle.le_conds.specs.declared.item.Lead.TheVariants as leads
use Rattle.le_conds.specs.declared.item.Item.{Item}
use Rattle.le_conds.specs.declared.entry.Join.{Join}
use Rattle.le_conds.specs.declared.entry.Join.TheVariants.{Plain, And, Or}
use Rattle.le_conds.specs.declared.entry.Opens.{Opens}
use Rattle.le_conds.specs.declared.entry.Opens.TheVariants.{Nothing, Negation, ForAll, Second, Stray, Gather}
use Rattle.le_conds.specs.declared.entry.Entry.{Entry}
use Rattle.le_layout.specs.declared.fault.Fault.{Fault}
use Rattle.le_conds.specs.Bounds.{IsPart, IsCondIn, OpensOver, IsEntryOver, IsItemOver, AreConds}
use Rattle.le_conds.specs.Items.{closed, opened, lead_at, open_after, ended_before, items_from, items_of}
use Rattle.le_conds.specs.Entries.{entries_of}
use Rattle.le_conds.specs.Trees.{Tree, Trees, more, sentence, negation, at_of, at_of_first, count_of, flat, flat_each, IsJoined, AreJoined}
use Rattle.le_conds.specs.Trees.{cond as node}
use Rattle.le_conds.specs.Members.{Member, is_empty, of_several, inline_of, first_lead, without_first, members_of, tree_of, inside, before_marker, from_marker}
use Rattle.le_layout.specs.Fault.{precedes, sooner}
use Rattle.le_conds.specs.Faults.{fault_if, is_long, begins_scope, begins_opener, content_of, part_faults, shape_faults, condition_faults, conclusion_faults, least_of}
use Rattle.le_conds.specs.Blocks.{AreMatched, HasHead, IsMember, IsBlock, IsMembers, a_sentence, a_negation, a_negation_of_block, a_gather, a_for_all, head_alone, head_with, one, several, last, next}
use Rattle.le_conds.specs.Rules.{conditions_among}
use Rattle.le_conds.specs.Stack.{turned, joint, closing, marking, pushed}
use Rattle.le_conds.proofs.EntryLemmas.{entries_over}
use Rattle.le_conds.proofs.ItemLemmas.{items_over}
use Rattle.le_conds.proofs.StackLaws.{pushes, all_pushed}
use Rattle.le_conds.proofs.Matched.{entries_matched}
use Rattle.le_conds.proofs.TreeLaws.{nil_left, nil_right, no_fault, rules_found}

-- where no fault decides there is none
cond_some : (b : Bool) (f g : Fault) → cond b (Some g) (Some f) ≡ None → ⊥
cond_some true f g e = none-some g (sym e)
cond_some false f g e = none-some f (sym e)

sooner_some : (f : Fault) (found : Option Fault) → sooner f found ≡ None → ⊥
sooner_some f None e = none-some f (sym e)
sooner_some f (Some g) e = cond_some (precedes g f) f g e

pub least_none : (fs : List Fault) → least_of fs ≡ None → fs ≡ []
least_none [] e = refl
least_none (f ∷ fs) e = absurd (sooner_some f (least_of fs) e)

-- a conclusion without a fault
pub conclusion_part : (l : Layout) (s : Span) → s.to ≤ length l.tokens → conclusion_faults l s ≡ [] → IsPart l s
conclusion_part l s within e =
    let long = fault_if (is_long s) LongSentence s.from in
    let opens = fault_if (begins_scope l s) NegationScope s.from in
    let some_tokens = no_fault (is_empty s) BadIndent s.from (nil_left (fault_if (is_empty s) BadIndent s.from) (long ++ opens) e) in
    let short = no_fault (is_long s) LongSentence s.from (nil_left long opens (nil_right (fault_if (is_empty s) BadIndent s.from) (long ++ opens) e)) in
    record { some = leb-false s.to s.from some_tokens; within = within; short = ltb-false 200 (s.to - s.from) short }

-- an item without a fault of its own
pub record IsFit (l : Layout) (e : Entry) : Type 0 where
  some_tokens : e.own < e.inline.to
  short : e.inline.to - e.own ≤ 200
  over : IsEntryOver (length l.tokens) e

fit_of : (l : Layout) (e : Entry) → IsEntryOver (length l.tokens) e → part_faults l e ≡ [] → IsFit l e
fit_of l e over none_wrong =
    let s = content_of e in
    let long = fault_if (is_long s) LongSentence e.own in
    let opens = fault_if (begins_opener l e.inline) NegationScope e.inline.from in
    let filled = no_fault (is_empty s) BadIndent e.at (nil_left (fault_if (is_empty s) BadIndent e.at) (long ++ opens) none_wrong) in
    let short = no_fault (is_long s) LongSentence e.own (nil_left long opens (nil_right (fault_if (is_empty s) BadIndent e.at) (long ++ opens) none_wrong)) in
    record { some_tokens = leb-false s.to s.from filled; short = ltb-false 200 (s.to - s.from) short; over = over }

pub AreFit : Layout → List Entry → Type 0
AreFit l [] = Unit {0}
AreFit l (e ∷ es) = IsFit l e × AreFit l es

fits_of : (l : Layout) (es : List Entry) → All (IsEntryOver (length l.tokens)) es → flat_map (part_faults l) es ≡ [] → AreFit l es
unfolding AreFit
fits_of l [] over none_wrong = tt
fits_of l (e ∷ es) over none_wrong = (
  fit_of l e (All-head (IsEntryOver (length l.tokens)) e es over) (nil_left (part_faults l e) (flat_map (part_faults l) es) none_wrong),
  fits_of l es (All-tail (IsEntryOver (length l.tokens)) e es over) (nil_right (part_faults l e) (flat_map (part_faults l) es) none_wrong),
)

fits_first : (l : Layout) (es ds : List Entry) → AreFit l (es ++ ds) → AreFit l es
unfolding AreFit
fits_first l [] ds h = tt
fits_first l (e ∷ es) ds h = (h.0, fits_first l es ds h.1)

fits_rest : (l : Layout) (es ds : List Entry) → AreFit l (es ++ ds) → AreFit l ds
unfolding AreFit
fits_rest l [] ds h = h
fits_rest l (e ∷ es) ds h = fits_rest l es ds h.1

-- the sentence of an item without a fault
inline_part : (l : Layout) (e : Entry) → IsFit l e → is_empty e.inline ≡ false → IsPart l e.inline
inline_part l e fit filled = record {
  some = leb-false e.inline.to e.inline.from filled;
  within = fit.over.inside;
  short = omega (arith, fit.short, fit.over.begun);
}

sentence_part : (l : Layout) (e : Entry) → IsFit l e → e.opens ≡ Nothing → IsPart l e.inline
sentence_part l e fit opens = record {
  some = omega (arith, fit.over.sentence opens, fit.some_tokens);
  within = fit.over.inside;
  short = omega (arith, fit.short, fit.over.begun);
}

HeadFits : Layout → Option Span → Type 0
HeadFits l None = Unit {0}
HeadFits l (Some s) = IsPart l s

head_fits : (l : Layout) (e : Entry) (head : Option Span) → IsFit l e → HasHead e head → HeadFits l head
unfolding HeadFits
head_fits l e None fit has = tt
head_fits l e (Some s) fit has = subst (IsPart l) has.1 (inline_part l e fit has.0)

-- a condition whose tree lies where it should
pub record IsGood (l : Layout) (t : Tree) : Type 0 where
  within : All (IsCondIn l) (flat t)
  joined : IsJoined t
  at : at_of t < length l.tokens

record AreGood (l : Layout) (ts : Trees) : Type 0 where
  within : All (IsCondIn l) (flat_each ts)
  joined : AreJoined ts
  at : at_of_first ts < length l.tokens
  some_trees : 1 ≤ count_of ts

own_in : (l : Layout) (e : Entry) → IsFit l e → e.own < length l.tokens
own_in l e fit = omega (arith, fit.some_tokens, fit.over.inside)

sentence_good : (l : Layout) (s : Span) → IsPart l s → IsGood l (sentence s)
sentence_good l s part =
    let low : s.from < length l.tokens = omega (arith, part.some, part.within) in
    record {
      within = All-cons (IsCondIn l) (node (kinds.Sentence s) s.from) [] (record { at = low; kind = part }) (All-nil (IsCondIn l));
      joined = tt;
      at = low;
    }

several_good : (l : Layout) (lead : Join) (t : Tree) (ts : Trees) → IsGood l t → AreGood l ts → IsGood l (of_several lead (more t ts))
several_good l Plain t ts a b = record {
  within = All-cons (IsCondIn l) (node (kinds.And (suc (count_of ts))) (at_of t)) (flat t ++ flat_each ts) (record { at = a.at; kind = tt }) (All-append (IsCondIn l) (flat t) (flat_each ts) a.within b.within);
  joined = (omega (arith, b.some_trees), (a.joined, b.joined));
  at = a.at;
}
several_good l And t ts a b = record {
  within = All-cons (IsCondIn l) (node (kinds.And (suc (count_of ts))) (at_of t)) (flat t ++ flat_each ts) (record { at = a.at; kind = tt }) (All-append (IsCondIn l) (flat t) (flat_each ts) a.within b.within);
  joined = (omega (arith, b.some_trees), (a.joined, b.joined));
  at = a.at;
}
several_good l Or t ts a b = record {
  within = All-cons (IsCondIn l) (node (kinds.Or (suc (count_of ts))) (at_of t)) (flat t ++ flat_each ts) (record { at = a.at; kind = tt }) (All-append (IsCondIn l) (flat t) (flat_each ts) a.within b.within);
  joined = (omega (arith, b.some_trees), (a.joined, b.joined));
  at = a.at;
}

negation_good : (l : Layout) (e : Entry) (t : Tree) → IsFit l e → IsGood l t → IsGood l (negation e.own t)
negation_good l e t fit a = record {
  within = All-cons (IsCondIn l) (node kinds.Not e.own) (flat t) (record { at = own_in l e fit; kind = tt }) a.within;
  joined = a.joined;
  at = own_in l e fit;
}

mutual
  unfolding AreFit HeadFits

  member_good : (l : Layout) (column : ℕ) (lead : Join) (es : List Entry) (t : Tree) → IsMember column lead es t → AreFit l es → IsGood l t
  member_good l column lead es t (a_sentence e deeper u opens all_deeper inner) fit = block_good l (Some e.inline) deeper u inner (sentence_part l e fit.0 opens) fit.1
  member_good l column lead es t (a_negation e opens filled) fit = negation_good l e (sentence e.inline) fit.0 (sentence_good l e.inline (inline_part l e fit.0 filled))
  member_good l column lead es t (a_negation_of_block e deeper u opens bare all_deeper inner) fit = negation_good l e u fit.0 (block_good l None deeper u inner tt fit.1)
  member_good l column lead es t (a_gather e fold result name head deeper u opens heads all_deeper inner) fit =
      let a = block_good l head deeper u inner (head_fits l e head fit.0 heads) fit.1 in
      let spans = subst (OpensOver (length l.tokens)) opens fit.0.over.opens in
      record {
        within = All-cons (IsCondIn l) (node (kinds.Gather fold result name) e.own) (flat u)
            (record { at = own_in l e fit.0; kind = (record { ordered = spans.0; within = spans.1.0 }, record { ordered = spans.1.1.0; within = spans.1.1.1 }) }) a.within;
        joined = a.joined;
        at = own_in l e fit.0;
      }
  member_good l column lead es t (a_for_all e marker head second_head first second u w opens heads all_deeper inner marks order second_heads second_deeper second_inner) fit =
      let rest = fits_rest l first (marker ∷ second) fit.1 in
      let a = block_good l head first u inner (head_fits l e head fit.0 heads) (fits_first l first (marker ∷ second) fit.1) in
      let b = block_good l second_head second w second_inner (head_fits l marker second_head rest.0 second_heads) rest.1 in
      record {
        within = All-cons (IsCondIn l) (node kinds.ForAll e.own) (flat u ++ flat w) (record { at = own_in l e fit.0; kind = tt }) (All-append (IsCondIn l) (flat u) (flat w) a.within b.within);
        joined = (a.joined, b.joined);
        at = own_in l e fit.0;
      }

  block_good : (l : Layout) (head : Option Span) (es : List Entry) (t : Tree) → IsBlock head es t → HeadFits l head → AreFit l es → IsGood l t
  block_good l head es t (head_alone s) part fit = sentence_good l s part
  block_good l head es t (head_with s level lead ds ts connects found) part fit =
      several_good l lead (sentence s) ts (sentence_good l s part) (members_good l level lead ds ts found fit)
  block_good l head es t (one level ds u found) part fit = member_good l level Plain ds u found fit
  block_good l head es t (several level lead first others u ts connects found more_found) part fit =
      several_good l lead u ts (member_good l level Plain first u found (fits_first l first others fit)) (members_good l level lead others ts more_found (fits_rest l first others fit))

  members_good : (l : Layout) (level : ℕ) (lead : Join) (es : List Entry) (ts : Trees) → IsMembers level lead es ts → AreFit l es → AreGood l ts
  members_good l level lead es ts (last level2 lead2 ds u found) fit =
      let a = member_good l level lead ds u found fit in
      record {
        within = All-append (IsCondIn l) (flat u) [] a.within (All-nil (IsCondIn l));
        joined = (a.joined, tt);
        at = a.at;
        some_trees = omega arith;
      }
  members_good l level lead es ts (next level2 lead2 ds others u us found more_found) fit =
      let a = member_good l level lead ds u found (fits_first l ds others fit) in
      let b = members_good l level lead others us more_found (fits_rest l ds others fit) in
      record {
        within = All-append (IsCondIn l) (flat u) (flat_each us) a.within b.within;
        joined = (a.joined, b.joined);
        at = a.at;
        some_trees = omega arith;
      }

-- there is always a first item
first_by : (l : Layout) (to n : ℕ) (item : Item) (k : ℕ) (lead : Option Lead) → ((x : Item) × ((xs : List Item) × (items_from l to item (k + 1) n ≡ x ∷ xs))) → (x : Item) × ((xs : List Item) × (ended_before item k lead ++ items_from l to (open_after item k lead) (k + 1) n ≡ x ∷ xs))
first_by l to n item k None rest = rest
first_by l to n item k (Some lead) rest = (closed item k, (items_from l to (opened lead k) (k + 1) n, refl))

first_item : (l : Layout) (to n : ℕ) (item : Item) (k : ℕ) → (x : Item) × ((xs : List Item) × (items_from l to item k n ≡ x ∷ xs))
unfolding items_from
first_item l to zero item k = (closed item to, ([], refl))
first_item l to (suc n) item k = first_by l to n item k (lead_at l to item k) (first_item l to n item (k + 1))

sound_entries : (l : Layout) (e : Entry) (es : List Entry) → AreMatched [] (e ∷ es) → All (IsEntryOver (length l.tokens)) (e ∷ es) → condition_faults l (e ∷ es) ≡ [] → IsGood l (tree_of (e ∷ es))
unfolding HeadFits
sound_entries l e es matched over none_wrong =
    let parts = flat_map (part_faults l) (e ∷ es) in
    block_good l None (e ∷ es) (tree_of (e ∷ es)) (rules_found e es matched (nil_right parts (shape_faults (e ∷ es)) none_wrong)) tt
    (fits_of l (e ∷ es) over (nil_left parts (shape_faults (e ∷ es)) none_wrong))

sound_items : (l : Layout) (place : ℕ) (x : Item) (xs : List Item) → All (IsItemOver (length l.tokens)) (x ∷ xs) → condition_faults l (entries_of l place (x ∷ xs)) ≡ [] → IsGood l (tree_of (entries_of l place (x ∷ xs)))
sound_items l place x xs over none_wrong = sound_entries l _ _ (entries_matched l place (x ∷ xs)) (entries_over l (length l.tokens) place (x ∷ xs) over) none_wrong

sound_from : (l : Layout) (place : ℕ) (items : List Item) → (x : Item) × ((xs : List Item) × (items ≡ x ∷ xs)) → All (IsItemOver (length l.tokens)) items → condition_faults l (entries_of l place items) ≡ [] → IsGood l (tree_of (entries_of l place items))
sound_from l place items first over none_wrong =
    subst (λ (ys : List Item). IsGood l (tree_of (entries_of l place ys))) (sym first.1.1)
    (sound_items l place first.0 first.1.0 (subst (All (IsItemOver (length l.tokens))) first.1.1 over) (sym (ap (λ (ys : List Item). condition_faults l (entries_of l place ys)) first.1.1) ∙ none_wrong))

-- The conditions among some tokens, where no fault decides, lie among them and are those of a tree.
pub conditions_good : (l : Layout) (place from to : ℕ) → from ≤ to → to ≤ length l.tokens → condition_faults l (conditions_among l place from to) ≡ [] → IsGood l (tree_of (conditions_among l place from to))
conditions_good l place from to low high none_wrong =
    sound_from l place (items_of l from to) (first_item l to (to - from) (opened leads.Plain from) from) (items_over l from to (length l.tokens) low high).over none_wrong

pub conditions_tree : (l : Layout) (place from to end : ℕ) (conds : Conds) → from ≤ to → to ≤ length l.tokens → least_of (condition_faults l (conditions_among l place from to)) ≡ None → conds.nodes ≡ flat (tree_of (conditions_among l place from to)) → length conds.nodes ≤ 3 * end + 4 → AreConds l end conds
conditions_tree l place from to end conds low high none_wrong same few =
    let good = conditions_good l place from to low high (least_none (condition_faults l (conditions_among l place from to)) none_wrong) in
    record {
      within = subst (All (IsCondIn l)) (sym same) good.within;
      whole = record { tree = tree_of (conditions_among l place from to); same = sym same; joined = good.joined };
      few = few;
    }

-- ---- how many conditions there are

joint_few : (lead : Join) (ts : List Tree) → length (joint lead ts) ≤ 1
joint_few lead [] = omega arith
joint_few lead (t ∷ []) = omega arith
joint_few lead (t ∷ u ∷ ts) = omega arith

headed_few : (s : Span) (ms : List Member) → length (closing (sentence s ∷ []) ms) ≤ 2
headed_few s ms = let few = joint_few (first_lead ms) (sentence s ∷ map (λ (m : Member). m.tree) ms) in omega (arith, few)

plain_few : (ms : List Member) → length (closing [] ms) ≤ 1
plain_few ms = joint_few (first_lead (without_first ms)) (map (λ (m : Member). m.tree) ms)

inline_few : (e : Entry) (ms : List Member) → length (closing (inline_of e) ms) ≤ 2
inline_few e ms = by_empty (is_empty e.inline)
  where
    by_empty : (b : Bool) → length (closing (cond b [] (sentence e.inline ∷ [])) ms) ≤ 2
    by_empty true = let few = plain_few ms in omega (arith, few)
    by_empty false = headed_few e.inline ms

marking_few : (own : ℕ) (ms : List Member) → length (marking own ms) ≤ 1
marking_few own [] = omega arith
marking_few own (m ∷ ms) = omega arith

pushed_few : (o : Opens) (e : Entry) (ms : List Member) → length (pushed o e ms) ≤ 3
pushed_few Nothing e ms = let few = headed_few e.inline (inside e.column ms) in omega (arith, few)
pushed_few Negation e ms =
    let few = inline_few e (inside e.column ms) in
    let both = length-append (closing (inline_of e) (inside e.column ms)) (node kinds.Not e.own ∷ []) in
    omega (arith, few, both)
pushed_few (Gather fold result name) e ms =
    let few = inline_few e (inside e.column ms) in
    let both = length-append (closing (inline_of e) (inside e.column ms)) (node (kinds.Gather fold result name) e.own ∷ []) in
    omega (arith, few, both)
pushed_few (Second column) e ms = let few = inline_few e (inside column ms) in omega (arith, few)
pushed_few Stray e ms = let few = inline_few e (inside e.column ms) in omega (arith, few)
pushed_few ForAll e ms =
    let few = inline_few e (before_marker ms) in
    let mark = marking_few e.own (from_marker ms) in
    let both = length-append (closing (inline_of e) (before_marker ms)) (marking e.own (from_marker ms)) in
    omega (arith, few, mark, both)

turned_few : (es : List Entry) → length (turned (members_of es)) ≤ 3 * length es
unfolding members_of
turned_few [] = omega arith
turned_few (e ∷ es) =
    let rest = turned_few es in
    let pushes_few = pushed_few e.opens e (members_of es) in
    let all_few = ap length (pushes e.opens e (members_of es)) in
    let both = length-append (turned (members_of es)) (pushed e.opens e (members_of es)) in
    omega (arith, rest, pushes_few, all_few, both)

pub tree_few : (es : List Entry) → length (flat (tree_of es)) ≤ 3 * length es + 1
tree_few es =
    let whole = ap length (all_pushed es) in
    let turn = length-reverse (flat (tree_of es)) in
    let both = length-append (turned (members_of es)) (closing [] (members_of es)) in
    let close = plain_few (members_of es) in
    let front = turned_few es in
    omega (arith, whole, turn, both, close, front)
