-- How the clauses of a rule and the piece of a query are made of what was read, and that reading keeps the shape of conditions.
use Rattle.std.proofs.Common.{◌≡◌, ◌⊎◌, inl, inr, ℕ, zero, suc, ◌+◌, Bool, true, false, cond, Option, None, Some, Result, Ok, Err, IfOk, List, [], ◌∷◌, ◌++◌, length, All, refl, sym, ap, subst, ◌∙◌, arith, append_assoc, append-nil}
use Rattle.le_layout.specs.declared.span.Span.{Span}
use Rattle.le_base.specs.declared.stop.FoldKind.{FoldKind}
use Rattle.le_base.specs.declared.stop.Refusal.{Refusal}
use Rattle.le_layout.specs.declared.token.Token.{Token}
use Rattle.le_layout.specs.declared.layout.Layout.{Layout}
use Rattle.le_layout.specs.Words.{tokens_of, token_of}
use Rattle.le_docs.specs.declared.doc.Section.{Section}
use Rattle.le_templates.specs.declared.part.Template.{Template}
use Rattle.le_terms.specs.Tree.{Tree}
use Rattle.le_terms.specs.declared.program.Atom.{Atom}
use Rattle.le_terms.specs.declared.program.Clause.{Clause}
use Rattle.le_terms.specs.declared.program.GroupKind.{GroupKind}
use Rattle.le_scope.specs.declared.scope.Intro.{Intro}
use Rattle.le_scope.specs.declared.scope.Intro.TheVariants as intro
use Rattle.le_scope.specs.Phrases.{phrase_name}
use Rattle.le_scope.specs.Scopes.{ScopeState, introduction, introduced}
use Rattle.le_match.specs.Terms.{Found, term_of, atom_of}
use Rattle.le_conds.specs.declared.cond.CondKind.{CondKind}
use Rattle.le_conds.specs.declared.cond.CondKind.TheVariants as conds
use Rattle.le_conds.specs.declared.cond.Cond.{Cond}
use Rattle.le_conds.specs.declared.cond.Conds.{Conds}
use Rattle.le_conds.specs.Trees.{Tree as CondTree, Trees as CondTrees, sentence, all, some, negation, for_all, gather, none, more, count_of, flat, flat_each, IsTree}
use Rattle.le_conds.specs.Bounds.{AreRuleConds}
use Rattle.le_conds.specs.Rules.{rule_of, conditions_of}
use Rattle.le_clauses.specs.declared.draft.Draft.{Draft}
use Rattle.le_clauses.specs.declared.part.Part.{Part}
use Rattle.le_clauses.specs.declared.whole.Piece.{Piece}
use Rattle.le_clauses.specs.Walks.{members, below}
use Rattle.le_clauses.specs.Shapes.{count_below, NodesFit, PartsFit, IsShape, AreNodesIn}
use Rattle.le_clauses.specs.Rules.{new_scope, head_of, sentence_part, value_part, named_part, is_gather, kind_part, onto_parts, parts_of, body_nodes}
use Rattle.le_clauses.specs.Conditions.{condition_of}
use Rattle.le_clauses.specs.Groups.{rule_draft}
use Rattle.le_clauses.specs.Pieces.{Read, next_pred, within_limit, rule_clauses, rule_translated, query_draft, query_by, rule_read, clauses_of_parts, clauses_of_rule, query_read, query_of}

-- ---- the shape

as_many : (m n : ℕ) (cs : List Cond) → m ≡ n → NodesFit m cs → NodesFit n cs
as_many m n cs e h = subst (λ k. NodesFit k cs) e h

mutual
  tree_fits : (t : CondTree) (n : ℕ) (rest : List Cond) → NodesFit n rest → NodesFit (suc n) (flat t ++ rest)
  tree_fits (sentence s) n rest h = as_many n (n + 0) rest (omega arith) h
  tree_fits (all ts) n rest h = each_fits ts n rest h
  tree_fits (some ts) n rest h = each_fits ts n rest h
  tree_fits (negation at t) n rest h = as_many (suc n) (n + 1) (flat t ++ rest) (omega arith) (tree_fits t n rest h)
  tree_fits (for_all at t u) n rest h = as_many (suc (suc n)) (n + 2) ((flat t ++ flat u) ++ rest) (omega arith) (subst (NodesFit (suc (suc n))) (sym (append_assoc (flat t) (flat u) rest)) (tree_fits t (suc n) (flat u ++ rest) (tree_fits u n rest h)))
  tree_fits (gather at fold total name t) n rest h = as_many (suc n) (n + 1) (flat t ++ rest) (omega arith) (tree_fits t n rest h)

  each_fits : (ts : CondTrees) (n : ℕ) (rest : List Cond) → NodesFit n rest → NodesFit (n + count_of ts) (flat_each ts ++ rest)
  each_fits none n rest h = as_many n (n + 0) rest (omega arith) h
  each_fits (more t ts) n rest h = as_many (suc (n + count_of ts)) (n + suc (count_of ts)) ((flat t ++ flat_each ts) ++ rest) (omega arith) (subst (NodesFit (suc (n + count_of ts))) (sym (append_assoc (flat t) (flat_each ts) rest)) (tree_fits t (n + count_of ts) (flat_each ts ++ rest) (each_fits ts n rest h)))

pub one_tree_fits : (nodes : List Cond) → IsTree nodes → NodesFit 1 nodes
one_tree_fits nodes h = subst (NodesFit 1) (append-nil (flat h.tree) ∙ h.same) (tree_fits h.tree 0 [] tt)

pub readable : (layout : Layout) (to : ℕ) (o : Option Conds) → AreRuleConds layout to o → AreNodesIn layout o
readable layout to None h = tt
readable layout to (Some c) h = (h.within, one_tree_fits c.nodes h.whole)

abbrev HasBelow : ℕ → Found Part → Type 0
HasBelow n f = length (below f.value) ≡ n

sentence_below : (line : ℕ) (r : Result (Found Atom) Refusal) → IfOk (sentence_part line r) (HasBelow 0)
sentence_below line (Ok f) = refl
sentence_below line (Err r) = tt

value_below : (line : ℕ) (fold : FoldKind) (total : Tree) (names : List (List ℕ)) (scope : ScopeState) (each : Token) (i : Intro) → IfOk (value_part line fold total names scope each i) (HasBelow 1)
value_below line fold total names scope each (intro.New n) = refl
value_below line fold total names scope each intro.Again = tt
value_below line fold total names scope each intro.Full = tt

named_below : (line : ℕ) (fold : FoldKind) (each : Token) (name : List ℕ) (r : Result (Found Tree) Refusal) → IfOk (named_part line fold each name r) (HasBelow 1)
named_below line fold each name (Ok f) = value_below line fold f.value f.names (introduced f.scope name) each (introduction f.scope name)
named_below line fold each name (Err r) = tt

if_below : (n : ℕ) (b : Bool) (r s : Result (Found Part) Refusal) → IfOk r (HasBelow n) → IfOk s (HasBelow n) → IfOk (cond b r s) (HasBelow n)
if_below n true r s h k = h
if_below n false r s h k = k

members_length : (n : ℕ) → length (members n) ≡ n
members_length zero = refl
members_length (suc n) = ap suc (members_length n)

kind_below : (users : List Template) (names : List (List ℕ)) (scope : ScopeState) (query : Bool) (layout : Layout) (at : ℕ) (kind : CondKind) → IfOk (kind_part users names scope query layout at kind) (HasBelow (count_below kind))
kind_below users names scope query layout at (conds.Sentence span) = sentence_below (token_of layout span.from).line (atom_of users names scope query layout (tokens_of layout span))
kind_below users names scope query layout at (conds.And n) = members_length n
kind_below users names scope query layout at (conds.Or n) = members_length n
kind_below users names scope query layout at conds.Not = refl
kind_below users names scope query layout at conds.ForAll = refl
kind_below users names scope query layout at (conds.Gather fold total name) =
    let r = term_of users names scope query layout (tokens_of layout total) in
    let each = token_of layout (Rattle.std.proofs.Common.◌-◌ name.from 1) in
    let text = phrase_name layout (tokens_of layout name) in
    if_below 1 (is_gather layout total name) (named_part (token_of layout at).line fold each text r) (Rattle.le_match.specs.Terms.refused Rattle.le_base.specs.declared.code.Code.TheVariants.NoReading (token_of layout at))
    (named_below (token_of layout at).line fold each text r) tt

abbrev Fitting : ℕ → Found (List Part) → Type 0
Fitting n f = PartsFit n f.value

onto_fits : (n k : ℕ) (f : Found Part) (r : Result (Found (List Part)) Refusal) → HasBelow k f → IfOk r (Fitting (n + k)) → IfOk (onto_parts f.value r) (Fitting (suc n))
onto_fits n k f (Ok g) e h = subst (λ m. PartsFit (n + m) g.value) (sym e) h
onto_fits n k f (Err r) e h = tt

first_fits : (n k : ℕ) (rest : Found Part → Result (Found (List Part)) Refusal) (r : Result (Found Part) Refusal) → IfOk r (HasBelow k) → ((f : Found Part) → IfOk (rest f) (Fitting (n + k))) → IfOk (elim r [ Ok f ↦ onto_parts f.value (rest f) | Err e ↦ Err e ]) (Fitting (suc n))
first_fits n k rest (Ok f) e h = onto_fits n k f (rest f) e (h f)
first_fits n k rest (Err r) e h = tt

pub shape_kept : (users : List Template) (names : List (List ℕ)) (scope : ScopeState) (query : Bool) (layout : Layout) (n : ℕ) (cs : List Cond) → NodesFit n cs → IfOk (parts_of users names scope query layout cs) (Fitting n)
shape_kept users names scope query layout zero [] h = tt
shape_kept users names scope query layout zero (c ∷ cs) h = absurd h
shape_kept users names scope query layout (suc n) [] h = absurd h
shape_kept users names scope query layout (suc n) (c ∷ cs) h =
    first_fits n (count_below c.kind) (λ f. parts_of users f.names f.scope query layout cs) (kind_part users names scope query layout c.at c.kind)
    (kind_below users names scope query layout c.at c.kind) (λ f. shape_kept users f.names f.scope query layout (n + count_below c.kind) cs h)

-- ---- rules

abbrev then_rule : List Template → List (List ℕ) → ℕ → List GroupKind → Layout → Token → Result (Span × Option Conds) Refusal → Result (Read (List Clause)) Refusal
then_rule users names count groups layout first (Ok rule) = clauses_of_parts users names count groups layout first rule.0 rule.1
then_rule users names count groups layout first (Err r) = Err r

abbrev then_head : List Template → ℕ → List GroupKind → Layout → Token → List Cond → Result (Found Atom) Refusal → Result (Read (List Clause)) Refusal
then_head users count groups layout first nodes (Ok head) = rule_read users count groups first head.value (parts_of users head.names head.scope false layout nodes)
then_head users count groups layout first nodes (Err r) = Err r

pub rule_cut : (users : List Template) (names : List (List ℕ)) (count : ℕ) (groups : List GroupKind) (layout : Layout) (s : Span) (r : Result (Span × Option Conds) Refusal) → rule_of layout s ≡ r → clauses_of_rule users names count groups layout s ≡ then_rule users names count groups layout (token_of layout s.from) r
unfolding clauses_of_rule
rule_cut users names count groups layout s r e = ap (then_rule users names count groups layout (token_of layout s.from)) e

pub rule_head : (users : List Template) (names : List (List ℕ)) (count : ℕ) (groups : List GroupKind) (layout : Layout) (s first : Span) (o : Option Conds) (r : Result (Found Atom) Refusal) → rule_of layout s ≡ Ok (first, o) → head_of users names layout first ≡ r → clauses_of_rule users names count groups layout s ≡ then_head users count groups layout (token_of layout s.from) (body_nodes o) r
rule_head users names count groups layout s first o r e h =
    rule_cut users names count groups layout s (Ok (first, o)) e ∙ ap (then_head users count groups layout (token_of layout s.from) (body_nodes o)) h

pub rule_body : (users : List Template) (names : List (List ℕ)) (count : ℕ) (groups : List GroupKind) (layout : Layout) (s first : Span) (o : Option Conds) (head : Found Atom) (r : Result (Found (List Part)) Refusal) → rule_of layout s ≡ Ok (first, o) → head_of users names layout first ≡ Ok head → parts_of users head.names head.scope false layout (body_nodes o) ≡ r → clauses_of_rule users names count groups layout s ≡ rule_read users count groups (token_of layout s.from) head.value r
rule_body users names count groups layout s first o head r e h b =
    rule_head users names count groups layout s first o (Ok head) e h ∙ ap (rule_read users count groups (token_of layout s.from) head.value) b

-- ---- queries

abbrev then_conds : List Template → List (List ℕ) → ℕ → List GroupKind → Layout → Section → Token → Result Conds Refusal → Result (Read Piece) Refusal
then_conds users names count groups layout s first (Ok c) = query_read users count groups s first (parts_of users names new_scope true layout c.nodes)
then_conds users names count groups layout s first (Err r) = Err r

pub query_cut : (users : List Template) (names : List (List ℕ)) (count : ℕ) (groups : List GroupKind) (layout : Layout) (s : Section) (asking : Span) (r : Result Conds Refusal) → conditions_of layout asking ≡ r → query_of users names count groups layout s asking ≡ then_conds users names count groups layout s (token_of layout asking.from) r
unfolding query_of
query_cut users names count groups layout s asking r e = ap (then_conds users names count groups layout s (token_of layout asking.from)) e

pub query_body : (users : List Template) (names : List (List ℕ)) (count : ℕ) (groups : List GroupKind) (layout : Layout) (s : Section) (asking : Span) (c : Conds) (nodes : List Cond) (scope : ScopeState) (r : Result (Found (List Part)) Refusal) → conditions_of layout asking ≡ Ok c → nodes ≡ c.nodes → scope ≡ new_scope → parts_of users names scope true layout nodes ≡ r → query_of users names count groups layout s asking ≡ query_read users count groups s (token_of layout asking.from) r
query_body users names count groups layout s asking c nodes scope r e en es h =
    query_cut users names count groups layout s asking (Ok c) e
    ∙ ap (query_read users count groups s (token_of layout asking.from)) (ap (λ x. parts_of users names new_scope true layout x) (sym en) ∙ ap (λ x. parts_of users names x true layout nodes) (sym es) ∙ h)

either_shape : (r : Result (Found (List Part)) Refusal) → IfOk r (Fitting 1) → IfOk r (λ f. IsShape f.value)
either_shape (Ok f) h = inr h
either_shape (Err r) h = tt

pub shape_read : (users : List Template) (names : List (List ℕ)) (scope : ScopeState) (query : Bool) (layout : Layout) (cs : List Cond) → NodesFit 1 cs → IfOk (parts_of users names scope query layout cs) (λ f. IsShape f.value)
shape_read users names scope query layout cs h = either_shape (parts_of users names scope query layout cs) (shape_kept users names scope query layout 1 cs h)

-- ---- what is counted

pub rule_counted : (users : List Template) (count : ℕ) (groups groups' : List GroupKind) (first : Token) (head : Atom) (names : List (List ℕ)) (ps : List Part) (pred : ℕ) (clauses : List Clause) (kinds : List GroupKind) → groups' ≡ groups → pred ≡ next_pred users groups' → clauses ≡ rule_clauses first.line head (rule_draft pred head (condition_of ps)) → kinds ≡ (rule_draft pred head (condition_of ps)).kinds → rule_translated users count groups first head names ps ≡ within_limit count groups first names clauses kinds clauses
rule_counted users count groups groups' first head names ps pred clauses kinds eg ep ec ek =
    let e : next_pred users groups ≡ pred = sym (ep ∙ ap (next_pred users) eg) in
    let D : ℕ → Draft = λ n. rule_draft n head (condition_of ps) in
    ap (λ n. within_limit count groups first names (rule_clauses first.line head (D n)) (D n).kinds (rule_clauses first.line head (D n))) e
    ∙ ap (λ cs. within_limit count groups first names cs (D pred).kinds cs) (sym ec)
    ∙ ap (λ ks. within_limit count groups first names clauses ks clauses) (sym ek)

pub query_counted : (users : List Template) (count : ℕ) (groups groups' : List GroupKind) (s : Section) (first : Token) (names : List (List ℕ)) (scope : ScopeState) (ps : List Part) (pred : ℕ) (piece : Piece) (kinds : List GroupKind) → groups' ≡ groups → pred ≡ next_pred users groups' → piece ≡ query_by s (query_draft pred scope.asked (condition_of ps)) scope → kinds ≡ (query_draft pred scope.asked (condition_of ps)).kinds → query_read users count groups s first (Ok (record { value = ps; names = names; scope = scope })) ≡ within_limit count groups first names piece.clauses kinds piece
query_counted users count groups groups' s first names scope ps pred piece kinds eg ep ec ek =
    let e : next_pred users groups ≡ pred = sym (ep ∙ ap (next_pred users) eg) in
    let D : ℕ → Draft = λ n. query_draft n scope.asked (condition_of ps) in
    ap (λ n. within_limit count groups first names (query_by s (D n) scope).clauses (D n).kinds (query_by s (D n) scope)) e
    ∙ ap (λ (p : Piece). within_limit count groups first names p.clauses (D pred).kinds p) (sym ec)
    ∙ ap (λ ks. within_limit count groups first names piece.clauses ks piece) (sym ek)
