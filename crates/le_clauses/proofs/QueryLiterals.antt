-- A query whose conditions are accepted has a literal at least: wherever conditions are joined there are some.
use Rattle.std.proofs.Common.{◌≡◌, ℕ, zero, suc, ◌-◌, ◌+◌, Bool, true, false, cond, Option, Some, None, Result, Ok, Err, IfOk, List, [], ◌∷◌, ◌++◌, length, refl, sym, subst, ◌∙◌, arith, append_assoc, append-nil}
use Rattle.le_base.specs.declared.stop.FoldKind.{FoldKind}
use Rattle.le_base.specs.declared.stop.Refusal.{Refusal}
use Rattle.le_layout.specs.declared.span.Span.{Span}
use Rattle.le_base.specs.declared.code.Code.TheVariants.{NoReading}
use Rattle.le_layout.specs.declared.token.Token.{Token}
use Rattle.le_layout.specs.declared.layout.Layout.{Layout}
use Rattle.le_layout.specs.Words.{tokens_of, token_of}
use Rattle.le_docs.specs.Bounds.{IsSentenceOver}
use Rattle.le_templates.specs.declared.part.Template.{Template}
use Rattle.le_terms.specs.Tree.{Tree}
use Rattle.le_terms.specs.declared.program.Atom.{Atom}
use Rattle.le_terms.specs.declared.program.Literal.{Literal}
use Rattle.le_scope.specs.declared.scope.Intro.{Intro}
use Rattle.le_scope.specs.declared.scope.Intro.TheVariants as intro
use Rattle.le_scope.specs.Phrases.{phrase_name}
use Rattle.le_scope.specs.Scopes.{ScopeState, introduction, introduced}
use Rattle.le_proofs.specs.Goals.{literals_under}
use Rattle.le_match.specs.Terms.{Found, refused, term_of, atom_of}
use Rattle.le_conds.specs.declared.cond.CondKind.{CondKind}
use Rattle.le_conds.specs.declared.cond.CondKind.TheVariants as conds
use Rattle.le_conds.specs.declared.cond.Cond.{Cond}
use Rattle.le_layout.specs.declared.fault.Fault.{Fault}
use Rattle.le_conds.specs.Faults.{least_of, condition_faults}
use Rattle.le_conds.specs.Trees.{Tree as CondTree, sentence as a_sentence, all as all_trees, some as some_trees, negation as a_negation, for_all as a_for_all, gather as a_gather, none as no_trees, more as more_trees, flat, flat_each, IsJoined, IsTree}
use Rattle.le_conds.specs.Rules.{unless_fault, conditions_among, conds_of, conditions_of}
use Rattle.le_conds.proofs.SoundLemmas.{conditions_tree}
use Rattle.le_conds.proofs.TreeLaws.{nil_left}
use Rattle.le_clauses.specs.declared.part.Part.{Part}
use Rattle.le_clauses.specs.declared.part.Part.TheVariants as parts
use Rattle.le_clauses.specs.Conditions.{Condition, sentence, all, some, negation, for_all, gather, none, more, first_of, with_part, conditions_of as trees_of, condition_of}
use Rattle.le_clauses.specs.Groups.{literals_of, drafted, members_drafted}
use Rattle.le_clauses.specs.Rules.{sentence_part, value_part, named_part, is_gather, kind_part, onto_parts, parts_of}

pub not_nil : {X : Type 0} (x : X) (xs : List X) → x ∷ xs ≡ [] → ⊥
not_nil x xs e = absurd cc

-- ---- what the first condition leads to

-- what is joined by `and` leads to a literal where its first condition does; what joins none has one itself
abbrev LeadsBy : Option ℕ → Type 0 → Type 0
LeadsBy None Rest = Unit {0}
LeadsBy (Some zero) Rest = ⊥
LeadsBy (Some (suc n)) Rest = Rest

-- how many conditions a part joins by `and`
abbrev joined_by : Part → Option ℕ
joined_by (parts.Sentence line atom) = None
joined_by (parts.And n) = Some n
joined_by (parts.Or n) = None
joined_by (parts.Not line) = None
joined_by (parts.ForAll line) = None
joined_by (parts.Gather line fold total value) = None

abbrev joined_as : CondKind → Option ℕ
joined_as (conds.Sentence span) = None
joined_as (conds.And n) = Some n
joined_as (conds.Or n) = None
joined_as conds.Not = None
joined_as conds.ForAll = None
joined_as (conds.Gather fold total name) = None

abbrev pub PartsLead : List Part → Type 0
PartsLead [] = ⊥
PartsLead (p ∷ ps) = LeadsBy (joined_by p) (PartsLead ps)

abbrev pub NodesLead : List Cond → Type 0
NodesLead [] = ⊥
NodesLead (c ∷ cs) = LeadsBy (joined_as c.kind) (NodesLead cs)

-- ---- the conditions of a query

tree_leads : (t : CondTree) (rest : List Cond) → IsJoined t → NodesLead (flat t ++ rest)
tree_leads (a_sentence s) rest h = tt
tree_leads (all_trees no_trees) rest h = absurd (omega (arith, h.0))
tree_leads (all_trees (more_trees t ts)) rest h = subst NodesLead (sym (append_assoc (flat t) (flat_each ts) rest)) (tree_leads t (flat_each ts ++ rest) h.1.0)
tree_leads (some_trees ts) rest h = tt
tree_leads (a_negation at t) rest h = tt
tree_leads (a_for_all at t u) rest h = tt
tree_leads (a_gather at fold total name t) rest h = tt

nodes_lead : (nodes : List Cond) → IsTree nodes → NodesLead nodes
nodes_lead nodes h = subst NodesLead (append-nil (flat h.tree) ∙ h.same) (tree_leads h.tree [] h.joined)

pub query_leads : (layout : Layout) (s : Span) → IsSentenceOver (length layout.tokens) s → IfOk (conditions_of layout s) (λ c. NodesLead c.nodes)
query_leads layout s over = by (least_of (condition_faults layout (conditions_among layout s.from s.from s.to))) refl
  where
    by : (fault : Option Fault) → least_of (condition_faults layout (conditions_among layout s.from s.from s.to)) ≡ fault → IfOk (unless_fault layout fault (conds_of (conditions_among layout s.from s.from s.to))) (λ c. NodesLead c.nodes)
    by None e =
        let c = conds_of (conditions_among layout s.from s.from s.to) in
        nodes_lead c.nodes (conditions_tree layout s.from s.from s.to (length c.nodes) c (omega (arith, over.some)) over.inside e refl (omega arith)).whole
    by (Some fault) e = tt

-- ---- their parts

abbrev JoinsAs : Option ℕ → Found Part → Type 0
JoinsAs o f = joined_by f.value ≡ o

sentence_joins : (line : ℕ) (r : Result (Found Atom) Refusal) → IfOk (sentence_part line r) (JoinsAs None)
sentence_joins line (Ok f) = refl
sentence_joins line (Err r) = tt

value_joins : (line : ℕ) (fold : FoldKind) (total : Tree) (names : List (List ℕ)) (scope : ScopeState) (each : Token) (i : Intro) → IfOk (value_part line fold total names scope each i) (JoinsAs None)
value_joins line fold total names scope each (intro.New n) = refl
value_joins line fold total names scope each intro.Again = tt
value_joins line fold total names scope each intro.Full = tt

named_joins : (line : ℕ) (fold : FoldKind) (each : Token) (name : List ℕ) (r : Result (Found Tree) Refusal) → IfOk (named_part line fold each name r) (JoinsAs None)
named_joins line fold each name (Ok f) = value_joins line fold f.value f.names (introduced f.scope name) each (introduction f.scope name)
named_joins line fold each name (Err r) = tt

if_joins : (b : Bool) (r : Result (Found Part) Refusal) (t : Token) → IfOk r (JoinsAs None) → IfOk (cond b r (refused NoReading t)) (JoinsAs None)
if_joins true r t h = h
if_joins false r t h = tt

kind_joins : (users : List Template) (names : List (List ℕ)) (scope : ScopeState) (query : Bool) (layout : Layout) (at : ℕ) (kind : CondKind) → IfOk (kind_part users names scope query layout at kind) (JoinsAs (joined_as kind))
kind_joins users names scope query layout at (conds.Sentence span) = sentence_joins (token_of layout span.from).line (atom_of users names scope query layout (tokens_of layout span))
kind_joins users names scope query layout at (conds.And n) = refl
kind_joins users names scope query layout at (conds.Or n) = refl
kind_joins users names scope query layout at conds.Not = refl
kind_joins users names scope query layout at conds.ForAll = refl
kind_joins users names scope query layout at (conds.Gather fold total name) =
    let r = term_of users names scope query layout (tokens_of layout total) in
    let each = token_of layout (name.from - 1) in
    let text = phrase_name layout (tokens_of layout name) in
    if_joins (is_gather layout total name) (named_part (token_of layout at).line fold each text r) (token_of layout at)
    (named_joins (token_of layout at).line fold each text r)

leads_on : (o : Option ℕ) (Now Then : Type 0) → LeadsBy o Now → (Now → Then) → LeadsBy o Then
leads_on None Now Then h k = tt
leads_on (Some zero) Now Then h k = h
leads_on (Some (suc n)) Now Then h k = k h

abbrev DoLead : Found (List Part) → Type 0
DoLead f = PartsLead f.value

onto_lead : (o : Option ℕ) (Rest : Type 0) (f : Found Part) (r : Result (Found (List Part)) Refusal) → JoinsAs o f → LeadsBy o Rest → (Rest → IfOk r DoLead) → IfOk (onto_parts f.value r) DoLead
onto_lead o Rest f (Ok g) e h k = subst (λ x. LeadsBy x (PartsLead g.value)) (sym e) (leads_on o Rest (PartsLead g.value) h k)
onto_lead o Rest f (Err r) e h k = tt

first_leads : (o : Option ℕ) (Rest : Type 0) (rest : Found Part → Result (Found (List Part)) Refusal) (r : Result (Found Part) Refusal) → IfOk r (JoinsAs o) → LeadsBy o Rest → ((f : Found Part) → Rest → IfOk (rest f) DoLead) → IfOk (elim r [ Ok f ↦ onto_parts f.value (rest f) | Err e ↦ Err e ]) DoLead
first_leads o Rest rest (Ok f) e h k = onto_lead o Rest f (rest f) e h (k f)
first_leads o Rest rest (Err r) e h k = tt

pub parts_lead : (users : List Template) (names : List (List ℕ)) (scope : ScopeState) (query : Bool) (layout : Layout) (cs : List Cond) → NodesLead cs → IfOk (parts_of users names scope query layout cs) (λ f. PartsLead f.value)
parts_lead users names scope query layout [] h = absurd h
parts_lead users names scope query layout (c ∷ cs) h =
    first_leads (joined_as c.kind) (NodesLead cs) (λ f. parts_of users f.names f.scope query layout cs) (kind_part users names scope query layout c.at c.kind)
    (kind_joins users names scope query layout c.at c.kind) h (λ f further. parts_lead users f.names f.scope query layout cs further)

-- ---- their literals

abbrev HasLiteral : Condition → Type 0
HasLiteral (sentence line atom) = Unit {0}
HasLiteral (all none) = ⊥
HasLiteral (all (more c cs)) = HasLiteral c
HasLiteral (some cs) = Unit {0}
HasLiteral (negation line c) = Unit {0}
HasLiteral (for_all line c d) = Unit {0}
HasLiteral (gather line fold total value c) = Unit {0}

part_leads : (p : Part) (cs : List Condition) (Rest : Type 0) → (Rest → HasLiteral (first_of cs)) → LeadsBy (joined_by p) Rest → HasLiteral (first_of (with_part p cs))
part_leads (parts.Sentence line atom) cs Rest k h = tt
part_leads (parts.And zero) cs Rest k h = h
part_leads (parts.And (suc n)) cs Rest k h = k h
part_leads (parts.Or n) cs Rest k h = tt
part_leads (parts.Not line) cs Rest k h = tt
part_leads (parts.ForAll line) cs Rest k h = tt
part_leads (parts.Gather line fold total value) cs Rest k h = tt

condition_leads : (ps : List Part) → PartsLead ps → HasLiteral (condition_of ps)
condition_leads [] h = absurd h
condition_leads (p ∷ ps) h = part_leads p (trees_of ps) (PartsLead ps) (condition_leads ps) h

draft_leads : (c : Condition) → HasLiteral c → (pred : ℕ) (rule : List ℕ) → literals_of (drafted false pred rule c) ≡ [] → ⊥
draft_leads (sentence line atom) h pred rule e = not_nil _ _ e
draft_leads (all none) h pred rule e = absurd h
draft_leads (all (more c cs)) h pred rule e = draft_leads c h pred rule (nil_left (literals_of (drafted false pred rule c)) (literals_of (members_drafted (pred + length (drafted false pred rule c).kinds) rule cs)) e)
draft_leads (some cs) h pred rule e = not_nil _ _ e
draft_leads (negation line c) h pred rule e = not_nil _ _ e
draft_leads (for_all line c d) h pred rule e = not_nil _ _ e
draft_leads (gather line fold total value c) h pred rule e = not_nil _ _ e

under_leads : (by : ℕ → Tree) (ls : List Literal) → (ls ≡ [] → ⊥) → literals_under by ls ≡ [] → ⊥
under_leads by [] h e = h refl
under_leads by (l ∷ ls) h e = not_nil _ _ e

-- what the parts of a query are translated to has a literal, whatever the numbers of its variables
pub query_asks : (ps : List Part) → PartsLead ps → (pred : ℕ) (rule : List ℕ) (by : ℕ → Tree) → literals_under by (literals_of (drafted false pred rule (condition_of ps))) ≡ [] → ⊥
query_asks ps h pred rule by = under_leads by (literals_of (drafted false pred rule (condition_of ps))) (draft_leads (condition_of ps) (condition_leads ps h) pred rule)
