-- The bodies of what conditions are translated to have no more literals than the conditions have parts, and these are few.
use Rattle.std.proofs.Common.{◌≡◌, ℕ, zero, suc, ◌+◌, ◌*◌, ◌-◌, ◌≤◌, Bool, true, false, cond, nat_lt, Option, Some, None, Result, Ok, Err, IfOk, List, [], ◌∷◌, ◌++◌, map, length, refl, ap, arith, length-append}
use Rattle.std.specs.List.{AllByRecursion}
use Rattle.le_layout.specs.declared.span.Span.{Span}
use Rattle.le_base.specs.declared.stop.Refusal.{Refusal}
use Rattle.le_layout.specs.declared.layout.Layout.{Layout}
use Rattle.le_templates.specs.declared.part.Template.{Template}
use Rattle.le_terms.specs.declared.program.Atom.{Atom}
use Rattle.le_terms.specs.declared.program.Clause.{Clause}
use Rattle.le_terms.specs.declared.program.Form.TheVariants.{Neg}
use Rattle.le_terms.specs.declared.program.GroupKind.{GroupKind}
use Rattle.le_terms.specs.declared.program.GroupKind.TheVariants as groups
use Rattle.le_terms.specs.declared.program.Literal.{Literal}
use Rattle.le_scope.specs.Scopes.{ScopeState}
use Rattle.le_match.specs.Terms.{Found}
use Rattle.le_conds.specs.declared.cond.Cond.{Cond}
use Rattle.le_conds.specs.declared.cond.Conds.{Conds}
use Rattle.le_conds.specs.declared.item.Item.{Item}
use Rattle.le_conds.specs.declared.item.Lead.{Lead}
use Rattle.le_conds.specs.declared.item.Lead.TheVariants.{Plain}
use Rattle.le_layout.specs.declared.fault.Fault.{Fault}
use Rattle.le_conds.specs.Items.{span, opened, lead_at, open_after, ended_before, items_from, items_of}
use Rattle.le_conds.specs.Entries.{opens_of, unmarked, further_entries, entries_of}
use Rattle.le_conds.specs.Openers.{indent}
use Rattle.le_conds.specs.Faults.{least_of, condition_faults, conclusion_faults}
use Rattle.le_conds.specs.Rules.{first_if, unless_fault, conditions_among, conds_of, conditions_of, fact_with, rule_with, rule_of}
use Rattle.le_conds.proofs.SoundLemmas.{tree_few}
use Rattle.le_clauses.specs.declared.part.Part.{Part}
use Rattle.le_clauses.specs.declared.part.Part.TheVariants as parts
use Rattle.le_clauses.specs.declared.draft.Body.{Body}
use Rattle.le_clauses.specs.declared.draft.Draft.{Draft}
use Rattle.le_clauses.specs.Conditions.{Condition, Conditions, sentence, all, some, negation, for_all, gather, none, more, line_of, first_of, without_first, taken, left, with_part, conditions_of as trees_of, condition_of}
use Rattle.le_clauses.specs.Groups.{shared, group_atom, is_atom_alone, group_target, literal, literals_in, literals_of, branch_clause, group_clauses, Group, group_by, drafted, members_drafted, branches_drafted}
use Rattle.le_clauses.specs.Rules.{kind_part, onto_parts, parts_of, body_nodes}
use Rattle.le_clauses.proofs.SayableTerms.{all_both}

-- ---- the size of conditions

-- how many literals a condition has at most
abbrev mutual
  pub size : Condition → ℕ
  size (sentence line atom) = 1
  size (all cs) = sizes cs
  size (some cs) = suc (sizes cs)
  size (negation line c) = suc (size c)
  size (for_all line c d) = suc (size c + size d)
  size (gather line fold total value c) = suc (size c)

  pub sizes : Conditions → ℕ
  sizes none = 0
  sizes (more c cs) = size c + sizes cs

abbrev total_size : List Condition → ℕ
total_size [] = 0
total_size (c ∷ cs) = size c + total_size cs

first_size : (cs : List Condition) → size (first_of cs) + total_size (without_first cs) ≡ total_size cs
first_size [] = refl
first_size (c ∷ cs) = refl

taken_size : (n : ℕ) (cs : List Condition) → sizes (taken n cs) + total_size (left n cs) ≡ total_size cs
taken_size zero cs = omega arith
taken_size (suc n) cs = omega (arith, first_size cs, taken_size n (without_first cs))

part_size : (p : Part) (cs : List Condition) → total_size (with_part p cs) ≤ suc (total_size cs)
part_size (parts.Sentence line atom) cs = omega arith
part_size (parts.And n) cs = omega (arith, taken_size n cs)
part_size (parts.Or n) cs = omega (arith, taken_size n cs)
part_size (parts.Not line) cs = omega (arith, first_size cs)
part_size (parts.ForAll line) cs = omega (arith, first_size cs, first_size (without_first cs))
part_size (parts.Gather line fold total value) cs = omega (arith, first_size cs)

parts_size : (ps : List Part) → total_size (trees_of ps) ≤ length ps
parts_size [] = omega arith
parts_size (p ∷ ps) = omega (arith, part_size p (trees_of ps), parts_size ps)

pub condition_size : (ps : List Part) → size (condition_of ps) ≤ length ps
condition_size ps = omega (arith, first_size (trees_of ps), parts_size ps)

-- ---- the bodies of drafts

-- a draft whose own bodies have at most so many literals, and those of its clauses
pub record IsShort (m n : ℕ) (d : Draft) : Type 0 where
  pub bodies : AllByRecursion (λ (b : Body). length b.literals ≤ m) d.bodies
  pub clauses : AllByRecursion (λ (c : Clause). length c.body ≤ n) d.clauses

bodies_wider : (m n : ℕ) → m ≤ n → (bs : List Body) → AllByRecursion (λ (b : Body). length b.literals ≤ m) bs → AllByRecursion (λ (b : Body). length b.literals ≤ n) bs
bodies_wider m n le [] h = tt
bodies_wider m n le (b ∷ bs) h = (omega (arith, le, h.0), bodies_wider m n le bs h.1)

branches_short : (head : Atom) (m n : ℕ) → m ≤ n → (bs : List Body) → AllByRecursion (λ (b : Body). length b.literals ≤ m) bs → AllByRecursion (λ (c : Clause). length c.body ≤ n) (map (branch_clause head) bs)
branches_short head m n le [] h = tt
branches_short head m n le (b ∷ bs) h = (omega (arith, le, h.0), branches_short head m n le bs h.1)

pub first_short : (m : ℕ) (bs : List Body) → AllByRecursion (λ (b : Body). length b.literals ≤ m) bs → length (literals_in bs) ≤ m
first_short m [] h = omega arith
first_short m (b ∷ bs) h = h.0

both_clauses : (n : ℕ) (xs ys : List Clause) → AllByRecursion (λ (c : Clause). length c.body ≤ n) xs → AllByRecursion (λ (c : Clause). length c.body ≤ n) ys → AllByRecursion (λ (c : Clause). length c.body ≤ n) (xs ++ ys)
both_clauses n xs ys h k = all_both (λ (c : Clause). length c.body ≤ n) xs ys h k

group_short : (head : Atom) (m n : ℕ) (d : Draft) → m ≤ n → IsShort m n d → AllByRecursion (λ (c : Clause). length c.body ≤ n) (group_clauses head d ++ d.clauses)
group_short head m n d le h = both_clauses n (group_clauses head d) d.clauses (branches_short head m n le d.bodies h.bodies) h.clauses

by_short : (kind : GroupKind) (pred : ℕ) (rule : List ℕ) (c : Condition) (m n : ℕ) (d : Draft) → m ≤ n → IsShort m n d → AllByRecursion (λ (x : Clause). length x.body ≤ n) (group_by kind pred rule c d).clauses
by_short kind pred rule c m n d le h = by (is_atom_alone rule c)
  where
    by : (b : Bool) → AllByRecursion (λ (x : Clause). length x.body ≤ n) (cond {A = Group} b (record { atom = group_target pred rule c; clauses = []; kinds = [] }) (record { atom = group_target pred rule c; clauses = group_clauses (group_atom pred (shared rule c)) d ++ d.clauses; kinds = kind ∷ d.kinds })).clauses
    by true = tt
    by false = group_short (group_atom pred (shared rule c)) m n d le h

mutual
  -- what a condition is translated to has short bodies
  pub draft_short : (c : Condition) (n : ℕ) → size c ≤ n → (whole : Bool) (pred : ℕ) (rule : List ℕ) → IsShort (size c) n (drafted whole pred rule c)
  draft_short (sentence line atom) n le whole pred rule = record { bodies = (omega arith, tt); clauses = tt }
  draft_short (all cs) n le whole pred rule = members_short cs n le pred rule
  draft_short (some cs) n le true pred rule =
      let h = branches_drafted_short cs n (omega (arith, le)) pred rule in
      record { bodies = bodies_wider (sizes cs) (suc (sizes cs)) (omega arith) (branches_drafted pred rule cs).bodies h.bodies; clauses = h.clauses }
  draft_short (some cs) n le false pred rule =
      record { bodies = (omega arith, tt); clauses = group_short (group_atom pred (shared rule (some cs))) (sizes cs) n (branches_drafted (pred + 1) rule cs) (omega (arith, le)) (branches_drafted_short cs n (omega (arith, le)) (pred + 1) rule) }
  draft_short (negation line c) n le whole pred rule =
      record { bodies = (omega arith, tt); clauses = by_short groups.Not pred rule c (size c) n (drafted true (pred + 1) rule c) (omega (arith, le)) (draft_short c n (omega (arith, le)) true (pred + 1) rule) }
  draft_short (for_all line c e) n le whole pred rule =
      let first = drafted false (pred + 1) rule c in
      let next = pred + 1 + length first.kinds in
      let d = drafted true (next + 1) rule e in
      let second = group_by groups.Not next rule e d in
      let k1 = draft_short c n (omega (arith, le)) false (pred + 1) rule in
      let k2 = by_short groups.Not next rule e (size e) n d (omega (arith, le)) (draft_short e n (omega (arith, le)) true (next + 1) rule) in
      let last : Literal = literal (line_of e) (Neg second.atom) in
      record { bodies = (omega arith, tt); clauses = (omega (arith, le, first_short (size c) first.bodies k1.bodies, length-append (literals_of first) (last ∷ [])), both_clauses n first.clauses second.clauses k1.clauses k2) }
  draft_short (gather line fold total value c) n le whole pred rule =
      record { bodies = (omega arith, tt); clauses = by_short groups.Value pred rule c (size c) n (drafted true (pred + 1) rule c) (omega (arith, le)) (draft_short c n (omega (arith, le)) true (pred + 1) rule) }

  members_short : (cs : Conditions) (n : ℕ) → sizes cs ≤ n → (pred : ℕ) (rule : List ℕ) → IsShort (sizes cs) n (members_drafted pred rule cs)
  members_short none n le pred rule = record { bodies = (omega arith, tt); clauses = tt }
  members_short (more c cs) n le pred rule =
      let first = drafted false pred rule c in
      let next = pred + length first.kinds in
      let rest = members_drafted next rule cs in
      let k1 = draft_short c n (omega (arith, le)) false pred rule in
      let k2 = members_short cs n (omega (arith, le)) next rule in
      record {
        bodies = (omega (arith, first_short (size c) first.bodies k1.bodies, first_short (sizes cs) rest.bodies k2.bodies, length-append (literals_of first) (literals_of rest)), tt);
        clauses = both_clauses n first.clauses rest.clauses k1.clauses k2.clauses;
      }

  branches_drafted_short : (cs : Conditions) (n : ℕ) → sizes cs ≤ n → (pred : ℕ) (rule : List ℕ) → IsShort (sizes cs) n (branches_drafted pred rule cs)
  branches_drafted_short none n le pred rule = record { bodies = tt; clauses = tt }
  branches_drafted_short (more c cs) n le pred rule =
      let first = drafted false pred rule c in
      let next = pred + length first.kinds in
      let rest = branches_drafted next rule cs in
      let k1 = draft_short c n (omega (arith, le)) false pred rule in
      let k2 = branches_drafted_short cs n (omega (arith, le)) next rule in
      record {
        bodies = (omega (arith, first_short (size c) first.bodies k1.bodies), bodies_wider (sizes cs) (size c + sizes cs) (omega arith) rest.bodies k2.bodies);
        clauses = both_clauses n first.clauses rest.clauses k1.clauses k2.clauses;
      }

-- ---- how many conditions there are

items_few : (layout : Layout) (to : ℕ) (item : Item) (k n : ℕ) → length (items_from layout to item k n) ≤ n + 1
unfolding items_from
items_few layout to item k zero = omega arith
items_few layout to item k (suc n) =
    let lead = lead_at layout to item k in
    omega (arith, length-append (ended_before item k lead) (items_from layout to (open_after item k lead) (k + 1) n), one_at_most lead, items_few layout to (open_after item k lead) (k + 1) n)
  where
    one_at_most : (lead : Option Lead) → length (ended_before item k lead) ≤ 1
    one_at_most None = omega arith
    one_at_most (Some lead) = omega arith

entries_many : (layout : Layout) (columns : List ℕ) (items : List Item) → length (further_entries layout columns items) ≡ length items
unfolding further_entries
entries_many layout columns [] = refl
entries_many layout columns (item ∷ items) = ap suc (entries_many layout (unmarked (indent layout item.at) columns (opens_of layout columns item)) items)

entries_few : (layout : Layout) (place : ℕ) (items : List Item) → length (entries_of layout place items) ≡ length items
entries_few layout place [] = refl
entries_few layout place (item ∷ items) = ap suc (entries_many layout (unmarked (indent layout item.at) [] (opens_of layout [] item)) items)

nodes_few : (layout : Layout) (place from to : ℕ) → length (conds_of (conditions_among layout place from to)).nodes ≤ 3 * to + 4
nodes_few layout place from to =
    omega (arith, tree_few (conditions_among layout place from to), entries_few layout place (items_of layout from to), items_few layout to (opened Plain from) from (to - from))

unless_kept : {X : Type 0} (P : X → Type 0) (layout : Layout) (fault : Option Fault) (x : X) → P x → IfOk (unless_fault layout fault x) P
unless_kept P layout None x h = h
unless_kept P layout (Some f) x h = tt

-- a query's conditions are few
pub query_few : (layout : Layout) (s : Span) → IfOk (conditions_of layout s) (λ c. length c.nodes ≤ 3 * s.to + 4)
query_few layout s =
    let es = conditions_among layout s.from s.from s.to in
    unless_kept (λ (c : Conds). length c.nodes ≤ 3 * s.to + 4) layout (least_of (condition_faults layout es)) (conds_of es) (nodes_few layout s.from s.from s.to)

abbrev HasFew : ℕ → Span × Option Conds → Type 0
HasFew n r = length (body_nodes r.1) ≤ n

either_few : (n : ℕ) (b : Bool) (r s : Result (Span × Option Conds) Refusal) → IfOk r (HasFew n) → IfOk s (HasFew n) → IfOk (cond b r s) (HasFew n)
either_few n true r s h k = h
either_few n false r s h k = k

-- and so are a rule's
pub rule_few : (layout : Layout) (s : Span) → IfOk (rule_of layout s) (λ r. length (body_nodes r.1) ≤ 3 * s.to + 4)
rule_few layout s =
    let k = first_if layout s in
    let es = conditions_among layout k (k + 1) s.to in
    let n = 3 * s.to + 4 in
    either_few n (nat_lt k s.to) (rule_with layout (span s.from k) es) (fact_with layout (span s.from k))
    (unless_kept (HasFew n) layout (least_of (conclusion_faults layout (span s.from k) ++ condition_faults layout es)) (span s.from k, Some (conds_of es)) (nodes_few layout k (k + 1) s.to))
    (unless_kept (HasFew n) layout (least_of (conclusion_faults layout (span s.from k))) (span s.from k, None) (omega arith))

onto_many : (n : ℕ) (p : Part) (r : Result (Found (List Part)) Refusal) → IfOk r (λ f. length f.value ≡ n) → IfOk (onto_parts p r) (λ f. length f.value ≡ suc n)
onto_many n p (Ok f) h = ap suc h
onto_many n p (Err r) h = tt

first_many : (n : ℕ) (rest : Found Part → Result (Found (List Part)) Refusal) (r : Result (Found Part) Refusal) → ((f : Found Part) → IfOk (rest f) (λ g. length g.value ≡ n)) → IfOk (elim r [ Ok f ↦ onto_parts f.value (rest f) | Err e ↦ Err e ]) (λ f. length f.value ≡ suc n)
first_many n rest (Ok f) h = onto_many n f.value (rest f) (h f)
first_many n rest (Err r) h = tt

-- there is a part for each condition
pub parts_many : (users : List Template) (names : List (List ℕ)) (scope : ScopeState) (query : Bool) (layout : Layout) (cs : List Cond) → IfOk (parts_of users names scope query layout cs) (λ f. length f.value ≡ length cs)
parts_many users names scope query layout [] = refl
parts_many users names scope query layout (c ∷ cs) =
    first_many (length cs) (λ f. parts_of users f.names f.scope query layout cs) (kind_part users names scope query layout c.at c.kind) (λ f. parts_many users f.names f.scope query layout cs)
