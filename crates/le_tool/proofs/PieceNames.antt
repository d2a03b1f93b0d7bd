-- The pieces of an accepted document have the names of its sections, and so have the query and the scenario that are selected.
use Rattle.std.proofs.Common.{◌≡◌, ℕ, ◌+◌, ◌==◌, ◌||◌, nat_lt, Bool, true, false, cond, List, [], ◌∷◌, ◌++◌, length, map, Option, None, Some, IfSome, Result, Ok, Err, IfOk, refl, sym, ap, subst, ◌∙◌, if◌then◌else◌}
use Rattle.std.specs.Str.{bytes_eq}
use Rattle.std.specs.List.{AllByRecursion, find}
use Rattle.std.proofs.lemmas.Bool.{and_parts, eqb-true}
use Rattle.std.proofs.lemmas.Slice.Eq.{bytes_eq-Decides}
use Rattle.le_base.specs.declared.code.Code.TheVariants.{TooMany, NoScenario}
use Rattle.le_base.specs.declared.stop.Refusal.{Refusal}
use Rattle.le_layout.specs.declared.span.Span.{Span}
use Rattle.le_base.specs.Stop.{refusal_at}
use Rattle.le_layout.specs.declared.token.Token.{Token}
use Rattle.le_layout.specs.declared.layout.Layout.{Layout}
use Rattle.le_layout.specs.Words.{token_of}
use Rattle.le_docs.specs.declared.doc.Doc.{Doc}
use Rattle.le_docs.specs.declared.doc.Section.{Section}
use Rattle.le_docs.specs.declared.doc.SectionKind.{SectionKind}
use Rattle.le_docs.specs.declared.doc.SectionKind.TheVariants as kinds
use Rattle.le_docs.specs.Kinds.{kind_number, same_kind}
use Rattle.le_templates.specs.declared.part.Template.{Template}
use Rattle.le_terms.specs.declared.program.Clause.{Clause}
use Rattle.le_terms.specs.declared.program.GroupKind.{GroupKind}
use Rattle.le_terms.specs.declared.program.Program.{Program}
use Rattle.le_match.specs.Terms.{Found, refused}
use Rattle.le_conds.specs.declared.cond.Conds.{Conds}
use Rattle.le_conds.specs.Rules.{conditions_of}
use Rattle.le_clauses.specs.declared.part.Part.{Part}
use Rattle.le_clauses.specs.declared.whole.Piece.{Piece}
use Rattle.le_clauses.specs.declared.whole.Whole.{Whole}
use Rattle.le_clauses.specs.Conditions.{condition_of}
use Rattle.le_clauses.specs.Groups.{numbered}
use Rattle.le_clauses.specs.Rules.{new_scope, parts_of}
use Rattle.le_clauses.specs.Pieces.{Read, next_pred, within_limit, clauses_of, query_draft, query_by, query_read, query_of, clauses_piece, piece_of_query, piece_of, onto_pieces, is_read, pieces_of, users_of, whole_by, program_of}
use Rattle.le_clauses.specs.Selection.{is_named, knowledge, program_over, clauses_under, selected}
use Rattle.le_bundle.specs.Written.{IsName}
use Rattle.le_tool.proofs.HeadLemmas.{is_asked}

-- a section and a piece that are asked for by their name have one
abbrev pub IsNamedSection : Section → Type 0
IsNamedSection s = is_asked s.kind ≡ true → IsName s.name

abbrev pub IsNamedPiece : Piece → Type 0
IsNamedPiece p = is_asked p.kind ≡ true → IsName p.name

-- ---- the piece of a section has its kind and its name

abbrev IsOf : Section → Read Piece → Type 0
IsOf s f = (f.value.kind ≡ s.kind) × (f.value.name ≡ s.name)

clauses_are : (s : Section) (r : Result (Read (List Clause)) Refusal) → IfOk (clauses_piece s r) (IsOf s)
clauses_are s (Ok f) = (refl, refl)
clauses_are s (Err r) = tt

limit_is : (s : Section) (count : ℕ) (groups : List GroupKind) (first : Token) (names : List (List ℕ)) (clauses : List Clause) (more : List GroupKind) (p : Piece) → p.kind ≡ s.kind → p.name ≡ s.name → IfOk (within_limit count groups first names clauses more p) (IsOf s)
limit_is s count groups first names clauses more p kind name = by (nat_lt 50000 (count + length clauses))
  where
    by : (b : Bool) → IfOk (if b then refused TooMany first else Ok (record { value = p; names = names; count = count + length clauses; groups = groups ++ more })) (IsOf s)
    by true = tt
    by false = (kind, name)

read_is : (users : List Template) (count : ℕ) (groups : List GroupKind) (s : Section) (first : Token) (r : Result (Found (List Part)) Refusal) → IfOk (query_read users count groups s first r) (IsOf s)
read_is users count groups s first (Ok f) =
    let d = query_draft (next_pred users groups) f.scope.asked (condition_of f.value) in
    limit_is s count groups first f.names (map numbered d.clauses) d.kinds (query_by s d f.scope) refl refl
read_is users count groups s first (Err r) = tt

query_is : (users : List Template) (names : List (List ℕ)) (count : ℕ) (groups : List GroupKind) (layout : Layout) (s : Section) (sentence : Span) → IfOk (query_of users names count groups layout s sentence) (IsOf s)
unfolding query_of
query_is users names count groups layout s sentence = by (conditions_of layout sentence)
  where
    by : (r : Result Conds Refusal) → IfOk (elim r [ Ok conds ↦ query_read users count groups s (token_of layout sentence.from) (parts_of users names new_scope true layout conds.nodes) | Err r ↦ Err r ]) (IsOf s)
    by (Ok conds) = read_is users count groups s (token_of layout sentence.from) (parts_of users names new_scope true layout conds.nodes)
    by (Err r) = tt

piece_is : (users : List Template) (names : List (List ℕ)) (count : ℕ) (groups : List GroupKind) (layout : Layout) (s : Section) → IfOk (piece_of users names count groups layout s) (IsOf s)
piece_is users names count groups layout s = by (same_kind s.kind kinds.Query)
  where
    one : (spans : List Span) → IfOk (piece_of_query users names count groups layout s spans) (IsOf s)
    one [] = clauses_are s (clauses_of users names count groups layout [])
    one (span ∷ spans) = query_is users names count groups layout s span

    by : (b : Bool) → IfOk (if b then piece_of_query users names count groups layout s s.sentences else clauses_piece s (clauses_of users names count groups layout s.sentences)) (IsOf s)
    by true = one s.sentences
    by false = clauses_are s (clauses_of users names count groups layout s.sentences)

abbrev AreNamed : Read (List Piece) → Type 0
AreNamed f = AllByRecursion IsNamedPiece f.value

pieces_named : (users : List Template) (layout : Layout) (names : List (List ℕ)) (count : ℕ) (groups : List GroupKind) (sections : List Section) → AllByRecursion IsNamedSection sections → IfOk (pieces_of users names count groups layout sections) AreNamed
pieces_named users layout names count groups [] h = tt
pieces_named users layout names count groups (s ∷ sections) h =
    by (is_read s) (pieces_named users layout names count groups sections h.1) (λ f. pieces_named users layout f.names f.count f.groups sections h.1)
  where
    onto : (p : Piece) (r : Result (Read (List Piece)) Refusal) → IsNamedPiece p → IfOk r AreNamed → IfOk (onto_pieces p r) AreNamed
    onto p (Ok f) one rest = (one, rest)
    onto p (Err r) one rest = tt

    then_ : (r : Result (Read Piece) Refusal) → IfOk r (IsOf s) → ((f : Read Piece) → IfOk (pieces_of users f.names f.count f.groups layout sections) AreNamed)
        → IfOk (elim r [ Ok f ↦ onto_pieces f.value (pieces_of users f.names f.count f.groups layout sections) | Err r ↦ Err r ]) AreNamed
    then_ (Ok f) is rest = onto f.value (pieces_of users f.names f.count f.groups layout sections) (λ asked. subst IsName (sym is.1) (h.0 (ap is_asked (sym is.0) ∙ asked))) (rest f)
    then_ (Err r) is rest = tt

    by : (b : Bool) → IfOk (pieces_of users names count groups layout sections) AreNamed → ((f : Read Piece) → IfOk (pieces_of users f.names f.count f.groups layout sections) AreNamed)
        → IfOk (if b then elim (piece_of users names count groups layout s) [ Ok f ↦ onto_pieces f.value (pieces_of users f.names f.count f.groups layout sections) | Err r ↦ Err r ] else pieces_of users names count groups layout sections) AreNamed
    by true skipped rest = then_ (piece_of users names count groups layout s) (piece_is users names count groups layout s) rest
    by false skipped rest = skipped

-- the pieces of a document
pub program_named : (layout : Layout) (doc : Doc) → AllByRecursion IsNamedSection doc.sections → IfOk (program_of layout doc) (λ whole. AllByRecursion IsNamedPiece whole.pieces)
unfolding program_of
program_named layout doc h = by (users_of layout doc)
  where
    whole : (users : List Template) (r : Result (Read (List Piece)) Refusal) → IfOk r AreNamed → IfOk (whole_by users r) (λ w. AllByRecursion IsNamedPiece w.pieces)
    whole users (Ok f) named = named
    whole users (Err r) named = tt

    by : (r : Result (List Template) Refusal) → IfOk (elim r [ Ok users ↦ whole_by users (pieces_of users [] 0 [] layout doc.sections) | Err r ↦ Err r ]) (λ w. AllByRecursion IsNamedPiece w.pieces)
    by (Ok users) = whole users (pieces_of users [] 0 [] layout doc.sections) (pieces_named users layout [] 0 [] doc.sections h)
    by (Err r) = tt

-- ---- what is selected by its name has this name

found_named : (kind : SectionKind) (name : List ℕ) → is_asked kind ≡ true → (pieces : List Piece) → AllByRecursion IsNamedPiece pieces → IfSome (find (is_named kind name) pieces) (λ p. IsName name)
found_named kind name asked [] h = tt
found_named kind name asked (p ∷ pieces) h = by (is_named kind name p) refl (found_named kind name asked pieces h.1)
  where
    by : (b : Bool) → is_named kind name p ≡ b → IfSome (find (is_named kind name) pieces) (λ q. IsName name) → IfSome (cond b (Some p) (find (is_named kind name) pieces)) (λ q. IsName name)
    by true test rest =
        let both = and_parts (same_kind p.kind kind) (bytes_eq p.name name) test in
        let same : kind_number p.kind ≡ kind_number kind = eqb-true (kind_number p.kind) (kind_number kind) both.0 in
        subst IsName ((bytes_eq-Decides p.name name).0 both.1) (h.0 (ap (λ n. (n == 3) || (n == 4)) same ∙ asked))
    by false test rest = rest

scenario_named : (whole : Whole) → AllByRecursion IsNamedPiece whole.pieces → (scenario : Option (List ℕ)) (clauses : List Clause) → clauses_under whole scenario ≡ Ok clauses → IfSome scenario IsName
scenario_named whole h None clauses e = tt
scenario_named whole h (Some name) clauses e = by (find (is_named kinds.Scenario name) whole.pieces) (found_named kinds.Scenario name refl whole.pieces h) e
  where
    by : (o : Option Piece) → IfSome o (λ p. IsName name) → ◌≡◌ {A = Result (List Clause) Refusal} (elim o [ Some piece ↦ Ok (knowledge whole.pieces ++ piece.clauses) | None ↦ Err (refusal_at NoScenario 0 0) ]) (Ok clauses) → IsName name
    by (Some p) is found = is
    by None is found = absurd (cc found)

-- the names of a program that is selected from a document
pub selected_named : (whole : Whole) (scenario : Option (List ℕ)) (query : List ℕ) (program : Program) → AllByRecursion IsNamedPiece whole.pieces → selected whole scenario query ≡ Ok program → IsName query × IfSome scenario IsName
unfolding selected
selected_named whole scenario query program h e = by (clauses_under whole scenario) refl e
  where
    query_named : (clauses : List Clause) (o : Option Piece) → IfSome o (λ p. IsName query) → program_over whole clauses o ≡ Ok program → IsName query
    query_named clauses (Some p) is found = is
    query_named clauses None is found = absurd (cc found)

    by : (r : Result (List Clause) Refusal) → clauses_under whole scenario ≡ r → ◌≡◌ {A = Result Program Refusal} (elim r [ Ok clauses ↦ program_over whole clauses (find (is_named kinds.Query query) whole.pieces) | Err r ↦ Err r ]) (Ok program) → IsName query × IfSome scenario IsName
    by (Ok clauses) is found = (query_named clauses (find (is_named kinds.Query query) whole.pieces) (found_named kinds.Query query refl whole.pieces h) found, scenario_named whole h scenario clauses is)
    by (Err r) is found = absurd (cc found)
