-- The whole of a document is valid where its sections are accepted.
use Rattle.std.proofs.Common.{◌≡◌, ℕ, ◌+◌, Bool, true, false, cond, nat_lt, Result, Ok, Err, IfOk, List, [], ◌∷◌, ◌++◌, map, length, refl, sym, subst, ◌∙◌}
use Rattle.std.specs.List.{AllByRecursion}
use Rattle.std.proofs.lemmas.Bool.{true≢false}
use Rattle.le_base.specs.declared.code.Code.TheVariants.{TooMany}
use Rattle.le_layout.specs.declared.span.Span.{Span}
use Rattle.le_base.specs.declared.stop.Refusal.{Refusal}
use Rattle.le_layout.specs.declared.token.Token.{Token}
use Rattle.le_layout.specs.declared.layout.Layout.{Layout}
use Rattle.le_layout.specs.Words.{token_of}
use Rattle.le_docs.specs.declared.doc.SectionKind.{SectionKind}
use Rattle.le_docs.specs.declared.doc.SectionKind.TheVariants as kinds
use Rattle.le_docs.specs.declared.doc.Section.{Section}
use Rattle.le_docs.specs.declared.doc.Doc.{Doc}
use Rattle.le_docs.specs.Bounds.{IsSentenceOver}
use Rattle.le_docs.specs.Kinds.{same_kind}
use Rattle.le_docs.specs.Rule.{IsReported}
use Rattle.le_docs.proofs.FaultLemmas.{reported}
use Rattle.le_templates.specs.declared.part.Template.{Template}
use Rattle.le_terms.specs.Tree.{variable}
use Rattle.le_terms.specs.declared.program.Clause.{Clause}
use Rattle.le_terms.specs.declared.program.GroupKind.{GroupKind}
use Rattle.le_match.specs.Terms.{Found, refused}
use Rattle.le_conds.specs.declared.cond.Conds.{Conds}
use Rattle.le_conds.specs.Rules.{conditions_of}
use Rattle.le_clauses.specs.declared.part.Part.{Part}
use Rattle.le_clauses.specs.declared.whole.Piece.{Piece}
use Rattle.le_clauses.specs.declared.whole.Whole.{Whole}
use Rattle.le_clauses.specs.Conditions.{condition_of}
use Rattle.le_clauses.specs.Groups.{number_in, numbered, rule_vars}
use Rattle.le_clauses.specs.Rules.{new_scope, parts_of}
use Rattle.le_clauses.specs.Pieces.{Read, next_pred, within_limit, clauses_of, query_draft, query_vars, query_by, query_read, query_of, clauses_piece, piece_of_query, piece_of, onto_pieces, is_read, pieces_of, users_of, whole_by, program_of}
use Rattle.le_clauses.specs.Validity.{IsWhole}
use Rattle.le_clauses.specs.Documents.{HasOtherName, AreApart, AsksSomething, DocumentsAreValid}
use Rattle.le_clauses.proofs.ValidWhole.{LiesOver, whole_valid}
use Rattle.le_clauses.proofs.Accepted.{same_is, OtherName, NamesApart, AsksOnce, AreAccepted, accepted}
use Rattle.le_clauses.proofs.QueryLiterals.{NodesLead, PartsLead, query_leads, parts_lead, query_asks}
use Rattle.le_clauses.proofs.Sayable.{IsWholeToSay, whole_said}

-- ---- the piece of a section

record IsPieceOf (s : Section) (piece : Piece) : Type 0 where
  pub kind_ : piece.kind ≡ s.kind
  pub name_ : piece.name ≡ s.name
  pub asks : same_kind s.kind kinds.Query ≡ true → piece.query ≡ [] → ⊥

abbrev ReadsPieceOf : Section → Read Piece → Type 0
ReadsPieceOf s f = IsPieceOf s f.value

limited : (s : Section) (count : ℕ) (groups : List GroupKind) (first : Token) (names : List (List ℕ)) (clauses : List Clause) (kinds' : List GroupKind) (piece : Piece) → IsPieceOf s piece → IfOk (within_limit count groups first names clauses kinds' piece) (ReadsPieceOf s)
limited s count groups first names clauses kinds' piece h = by (nat_lt 50000 (count + length clauses))
  where
    by : (b : Bool) → IfOk (cond b (refused TooMany first) (Ok (record { value = piece; names = names; count = count + length clauses; groups = groups ++ kinds' }))) (ReadsPieceOf s)
    by true = tt
    by false = h

query_piece : (users : List Template) (count : ℕ) (groups : List GroupKind) (s : Section) (first : Token) (r : Result (Found (List Part)) Refusal) → IfOk r (λ f. PartsLead f.value) → IfOk (query_read users count groups s first r) (ReadsPieceOf s)
query_piece users count groups s first (Ok f) h =
    let c = condition_of f.value in
    let pred = next_pred users groups in
    let d = query_draft pred f.scope.asked c in
    limited s count groups first f.names (map numbered d.clauses) d.kinds (query_by s d f.scope)
    (record { kind_ = refl; name_ = refl; asks = λ asks. query_asks f.value h pred (rule_vars f.scope.asked c) (λ v. variable (number_in (query_vars d f.scope.asked) v)) })
query_piece users count groups s first (Err r) h = tt

conds_piece : (users : List Template) (names : List (List ℕ)) (count : ℕ) (groups : List GroupKind) (layout : Layout) (s : Section) (first : Token) (r : Result Conds Refusal) → IfOk r (λ c. NodesLead c.nodes)
    → IfOk (elim r [ Ok conds ↦ query_read users count groups s first (parts_of users names new_scope true layout conds.nodes) | Err e ↦ Err e ]) (ReadsPieceOf s)
conds_piece users names count groups layout s first (Ok conds) h =
    query_piece users count groups s first (parts_of users names new_scope true layout conds.nodes) (parts_lead users names new_scope true layout conds.nodes h)
conds_piece users names count groups layout s first (Err r) h = tt

asking_piece : (users : List Template) (names : List (List ℕ)) (count : ℕ) (groups : List GroupKind) (layout : Layout) (s : Section) (sentence : Span) → IsSentenceOver (length layout.tokens) sentence → IfOk (query_of users names count groups layout s sentence) (ReadsPieceOf s)
unfolding query_of
asking_piece users names count groups layout s sentence over = conds_piece users names count groups layout s (token_of layout sentence.from) (conditions_of layout sentence) (query_leads layout sentence over)

other_piece : (s : Section) (r : Result (Read (List Clause)) Refusal) → same_kind s.kind kinds.Query ≡ false → IfOk (clauses_piece s r) (ReadsPieceOf s)
other_piece s (Ok f) e = record { kind_ = refl; name_ = refl; asks = λ asks. absurd (true≢false (sym asks ∙ e)) }
other_piece s (Err r) e = tt

section_piece : (users : List Template) (names : List (List ℕ)) (count : ℕ) (groups : List GroupKind) (layout : Layout) (s : Section) → LiesOver (length layout.tokens) s → AsksOnce s → IfOk (piece_of users names count groups layout s) (ReadsPieceOf s)
section_piece users names count groups layout s over h = by (same_kind s.kind kinds.Query) refl
  where
    by : (b : Bool) → same_kind s.kind kinds.Query ≡ b → IfOk (cond b (piece_of_query users names count groups layout s s.sentences) (clauses_piece s (clauses_of users names count groups layout s.sentences))) (ReadsPieceOf s)
    by true e =
        let one = h e in
        subst (λ spans. IfOk (piece_of_query users names count groups layout s spans) (ReadsPieceOf s)) (sym one.is) (asking_piece users names count groups layout s one.only (subst (AllByRecursion (IsSentenceOver (length layout.tokens))) one.is over).0)
    by false e = other_piece s (clauses_of users names count groups layout s.sentences) e

-- ---- the pieces of sections

-- what sections have, their pieces have
record ArePiecesOf (sections : List Section) (pieces : List Piece) : Type 0 where
  pub others : (kind : SectionKind) (name : List ℕ) → AllByRecursion (OtherName kind name) sections → AllByRecursion (HasOtherName kind name) pieces
  pub apart : (kind : SectionKind) → NamesApart kind sections → AreApart kind pieces
  pub asks : AllByRecursion AsksSomething pieces

abbrev ReadsPiecesOf : List Section → Read (List Piece) → Type 0
ReadsPiecesOf sections f = ArePiecesOf sections f.value

more_pieces : (s : Section) (sections : List Section) (piece : Piece) (pieces : List Piece) → IsPieceOf s piece → ArePiecesOf sections pieces → ArePiecesOf (s ∷ sections) (piece ∷ pieces)
more_pieces s sections piece pieces p h = record {
  others = λ kind name other. (λ k n. other.0 (sym p.kind_ ∙ k) (sym p.name_ ∙ n), h.others kind name other.1);
  apart = λ kind names. (
    λ k. h.others kind piece.name (subst (λ n. AllByRecursion (OtherName kind n) sections) (sym p.name_) (names.0 (sym p.kind_ ∙ k))),
    h.apart kind names.1,
  );
  asks = (λ k. p.asks (same_is s.kind kinds.Query (sym p.kind_ ∙ k)), h.asks);
}

onto_pieces_of : (s : Section) (sections : List Section) (f : Read Piece) (r : Result (Read (List Piece)) Refusal) → ReadsPieceOf s f → IfOk r (ReadsPiecesOf sections) → IfOk (onto_pieces f.value r) (ReadsPiecesOf (s ∷ sections))
onto_pieces_of s sections f (Ok g) p h = more_pieces s sections f.value g.value p h
onto_pieces_of s sections f (Err r) p h = tt

then_pieces_of : (s : Section) (sections : List Section) (rest : Read Piece → Result (Read (List Piece)) Refusal) (r : Result (Read Piece) Refusal) → IfOk r (ReadsPieceOf s) → ((f : Read Piece) → IfOk (rest f) (ReadsPiecesOf sections))
    → IfOk (elim r [ Ok f ↦ onto_pieces f.value (rest f) | Err e ↦ Err e ]) (ReadsPiecesOf (s ∷ sections))
then_pieces_of s sections rest (Ok f) p h = onto_pieces_of s sections f (rest f) p (h f)
then_pieces_of s sections rest (Err r) p h = tt

left_out : (s : Section) (sections : List Section) (r : Result (Read (List Piece)) Refusal) → IfOk r (ReadsPiecesOf sections) → IfOk r (ReadsPiecesOf (s ∷ sections))
left_out s sections (Ok g) h = record { others = λ kind name other. h.others kind name other.1; apart = λ kind names. h.apart kind names.1; asks = h.asks }
left_out s sections (Err r) h = tt

if_read : (sections : List Section) (b : Bool) (r t : Result (Read (List Piece)) Refusal) → IfOk r (ReadsPiecesOf sections) → IfOk t (ReadsPiecesOf sections) → IfOk (cond b r t) (ReadsPiecesOf sections)
if_read sections true r t h k = h
if_read sections false r t h k = k

sections_pieces : (users : List Template) (names : List (List ℕ)) (count : ℕ) (groups : List GroupKind) (layout : Layout) (sections : List Section) → AllByRecursion (LiesOver (length layout.tokens)) sections → AllByRecursion AsksOnce sections → IfOk (pieces_of users names count groups layout sections) (ReadsPiecesOf sections)
sections_pieces users names count groups layout [] over ask = record { others = λ kind name other. tt; apart = λ kind names'. tt; asks = tt }
sections_pieces users names count groups layout (s ∷ sections) over ask =
    if_read (s ∷ sections) (is_read s) (elim (piece_of users names count groups layout s) [ Ok f ↦ onto_pieces f.value (pieces_of users f.names f.count f.groups layout sections) | Err e ↦ Err e ]) (pieces_of users names count groups layout sections)
    (then_pieces_of s sections (λ f. pieces_of users f.names f.count f.groups layout sections) (piece_of users names count groups layout s) (section_piece users names count groups layout s over.0 ask.0) (λ f. sections_pieces users f.names f.count f.groups layout sections over.1 ask.1))
    (left_out s sections (pieces_of users names count groups layout sections) (sections_pieces users names count groups layout sections over.1 ask.1))

-- ---- the whole

abbrev HasPiecesOf : List Section → Whole → Type 0
HasPiecesOf sections whole = ArePiecesOf sections whole.pieces

whole_pieces : (users : List Template) (sections : List Section) (r : Result (Read (List Piece)) Refusal) → IfOk r (ReadsPiecesOf sections) → IfOk (whole_by users r) (HasPiecesOf sections)
whole_pieces users sections (Ok f) h = h
whole_pieces users sections (Err r) h = tt

users_pieces : (layout : Layout) (sections : List Section) → AllByRecursion (LiesOver (length layout.tokens)) sections → AllByRecursion AsksOnce sections → (r : Result (List Template) Refusal)
    → IfOk (elim r [ Ok users ↦ whole_by users (pieces_of users [] 0 [] layout sections) | Err e ↦ Err e ]) (HasPiecesOf sections)
users_pieces layout sections over ask (Ok users) = whole_pieces users sections (pieces_of users [] 0 [] layout sections) (sections_pieces users [] 0 [] layout sections over ask)
users_pieces layout sections over ask (Err r) = tt

program_pieces : (layout : Layout) (doc : Doc) → AllByRecursion (LiesOver (length layout.tokens)) doc.sections → AllByRecursion AsksOnce doc.sections → IfOk (program_of layout doc) (HasPiecesOf doc.sections)
unfolding program_of
program_pieces layout doc over ask = users_pieces layout doc.sections over ask (users_of layout doc)

given_ok : {X E : Type 0} (P : X → Type 0) (r : Result X E) (x : X) → r ≡ Ok x → IfOk r P → P x
given_ok P r x e h = subst (λ s. IfOk s P) e h

-- The whole of a document is valid.
pub documents_valid : DocumentsAreValid
documents_valid layout doc whole valid accepts e =
    let report : IsReported layout (Ok doc) = subst (IsReported layout) accepts (reported layout) in
    let sections = subst (AreAccepted (length layout.tokens)) (sym report.1) (accepted layout valid report.0) in
    let pieces = given_ok (HasPiecesOf doc.sections) (program_of layout doc) whole e (program_pieces layout doc sections.lie sections.ask) in
    let said = given_ok IsWholeToSay (program_of layout doc) whole e (whole_said layout doc valid) in
    record {
      sound = given_ok IsWhole (program_of layout doc) whole e (whole_valid layout doc valid sections.lie);
      scenarios = pieces.apart kinds.Scenario sections.scenarios;
      queries = pieces.apart kinds.Query sections.queries;
      asks = pieces.asks;
      quotable = said.names_;
      pieces = said.pieces;
    }
