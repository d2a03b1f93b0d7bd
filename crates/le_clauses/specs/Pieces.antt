-- A document's pieces: the clauses of its knowledge bases and scenarios, and its queries. This project's profile.
use Rattle.std.specs.Prelude.{ℕ, ◌+◌, Bool, true, false, nat_lt, nat_le, if◌then◌else◌, Option, Result, Ok, Err, List, [], ◌∷◌, ◌++◌, length, map, flat_map, get_or}
use Rattle.le_base.specs.declared.code.Code.TheVariants.{TooMany}
use Rattle.le_layout.specs.declared.span.Span.{Span}
use Rattle.le_base.specs.declared.stop.Refusal.{Refusal}
use Rattle.le_layout.specs.declared.token.Token.{Token}
use Rattle.le_layout.specs.declared.layout.Layout.{Layout}
use Rattle.le_layout.specs.Words.{token_of}
use Rattle.le_docs.specs.declared.doc.SectionKind.TheVariants as kinds
use Rattle.le_docs.specs.declared.doc.Section.{Section}
use Rattle.le_docs.specs.declared.doc.Doc.{Doc}
use Rattle.le_docs.specs.Kinds.{same_kind}
use Rattle.le_templates.specs.declared.part.Template.{Template}
use Rattle.le_templates.specs.Table.{declaration}
use Rattle.le_terms.specs.Tree.{variable}
use Rattle.le_terms.specs.Variables.{firsts, all_occurrences}
use Rattle.le_terms.specs.Program.{literals_terms, predefined_count}
use Rattle.le_terms.specs.declared.program.Atom.{Atom}
use Rattle.le_terms.specs.declared.program.Clause.{Clause}
use Rattle.le_terms.specs.declared.program.GroupKind.{GroupKind}
use Rattle.le_terms.specs.declared.program.Asked.{Asked}
use Rattle.le_scope.specs.Scopes.{ScopeState}
use Rattle.le_match.specs.Terms.{Found, refused}
use Rattle.le_conds.specs.declared.cond.Conds.{Conds}
use Rattle.le_conds.specs.Rules.{rule_of, conditions_of}
use Rattle.le_proofs.specs.Goals.{literals_under}
use Rattle.le_clauses.specs.declared.part.Part.{Part}
use Rattle.le_clauses.specs.declared.draft.Draft.{Draft}
use Rattle.le_clauses.specs.declared.whole.Piece.{Piece}
use Rattle.le_clauses.specs.declared.whole.Whole.{Whole}
use Rattle.le_clauses.specs.Conditions.{Condition, condition_of}
use Rattle.le_clauses.specs.Groups.{drafted, rule_vars, rule_draft, written_clause, literals_of, numbered, number_in}
use Rattle.le_clauses.specs.Rules.{new_scope, head_of, parts_of, body_nodes}

-- what was found in a document so far, with the names, how many clauses there are, and the kinds of the groups
pub record Read (X : Type 0) : Type 0 where
  pub value : X
  pub names : List (List ℕ)
  pub count : ℕ
  pub groups : List GroupKind

-- the templates that some tokens declare, after those that were declared before, or the first refusal
abbrev pub declared_after : Layout → List Template → List Span → Result (List Template) Refusal
declared_after layout users [] = Ok users
declared_after layout users (span ∷ spans) =
    elim (declaration users layout span) [
      | Ok t ↦ declared_after layout (users ++ t ∷ []) spans
      | Err r ↦ Err r
    ]

-- the sentences of the sections of templates
unfoldable pub template_spans : List Section → List Span
template_spans sections = flat_map (λ (s : Section). if same_kind s.kind kinds.Templates then s.sentences else []) sections

-- the templates that a document declares
abbrev pub users_of : Layout → Doc → Result (List Template) Refusal
users_of layout doc = declared_after layout [] (template_spans doc.sections)

-- the predicate of the next group: the predefined ones, those of the users' templates and those of the groups so far are below it
abbrev pub next_pred : List Template → List GroupKind → ℕ
next_pred users groups = predefined_count + length users + length groups

-- What a sentence is read as, with these clauses and kinds of groups more, unless there are more than 50,000 clauses then: it is refused at its first token.
abbrev pub within_limit : {X : Type 0} → ℕ → List GroupKind → Token → List (List ℕ) → List Clause → List GroupKind → X → Result (Read X) Refusal
within_limit count groups first names clauses kinds x =
    if nat_lt 50000 (count + length clauses) then refused TooMany first
    else Ok (record { value = x; names = names; count = count + length clauses; groups = groups ++ kinds })

-- the clauses of a rule: its own, and those of its groups in order of number, each with its variables numbered from 0
abbrev pub rule_clauses : ℕ → Atom → Draft → List Clause
rule_clauses line head d = map numbered (written_clause line head d ∷ d.clauses)

-- the rule of a conclusion and of these parts
abbrev pub rule_translated : List Template → ℕ → List GroupKind → Token → Atom → List (List ℕ) → List Part → Result (Read (List Clause)) Refusal
rule_translated users count groups first head names ps =
    let d = rule_draft (next_pred users groups) head (condition_of ps) in
    within_limit count groups first names (rule_clauses first.line head d) d.kinds (rule_clauses first.line head d)

-- the rule of a conclusion and of conditions that were read
abbrev pub rule_read : List Template → ℕ → List GroupKind → Token → Atom → Result (Found (List Part)) Refusal → Result (Read (List Clause)) Refusal
rule_read users count groups first head (Ok f) = rule_translated users count groups first head f.names f.value
rule_read users count groups first head (Err r) = Err r

-- the clauses of a rule that is cut into its conclusion and its conditions
abbrev pub clauses_of_parts : List Template → List (List ℕ) → ℕ → List GroupKind → Layout → Token → Span → Option Conds → Result (Read (List Clause)) Refusal
clauses_of_parts users names count groups layout first conclusion conds =
    elim (head_of users names layout conclusion) [
      | Ok head ↦ rule_read users count groups first head.value (parts_of users head.names head.scope false layout (body_nodes conds))
      | Err r ↦ Err r
    ]

-- The clauses of a rule or a fact: its conclusion is the head and its conditions the body.
unfoldable pub clauses_of_rule : List Template → List (List ℕ) → ℕ → List GroupKind → Layout → Span → Result (Read (List Clause)) Refusal
clauses_of_rule users names count groups layout sentence =
    elim (rule_of layout sentence) [
      | Ok rule ↦ clauses_of_parts users names count groups layout (token_of layout sentence.from) rule.0 rule.1
      | Err r ↦ Err r
    ]

-- clauses before those of the sentences after them
abbrev pub onto_clauses : List Clause → Result (Read (List Clause)) Refusal → Result (Read (List Clause)) Refusal
onto_clauses clauses (Ok f) = Ok (record { value = clauses ++ f.value; names = f.names; count = f.count; groups = f.groups })
onto_clauses clauses (Err r) = Err r

-- the clauses of rules and facts in order, or the first refusal
abbrev pub clauses_of : List Template → List (List ℕ) → ℕ → List GroupKind → Layout → List Span → Result (Read (List Clause)) Refusal
clauses_of users names count groups layout [] = Ok (record { value = []; names = names; count = count; groups = groups })
clauses_of users names count groups layout (span ∷ spans) =
    elim (clauses_of_rule users names count groups layout span) [
      | Ok f ↦ onto_clauses f.value (clauses_of users f.names f.count f.groups layout spans)
      | Err r ↦ Err r
    ]

-- what a query's conditions are translated to; the variables that it asks for occur outside each of its groups
abbrev pub query_draft : ℕ → List ℕ → Condition → Draft
query_draft pred asked c = drafted false pred (rule_vars asked c) c

-- the variables of a query in order of first occurrence in its literals, in which each that is asked for occurs
abbrev pub query_vars : Draft → List ℕ → List ℕ
query_vars d asked = firsts (all_occurrences (literals_terms (literals_of d)) ++ asked)

-- the name at a place
abbrev pub name_at : List (List ℕ) → ℕ → List ℕ
name_at names n = get_or names n []

-- the variables that a query asks for, by their names in the scope and with the numbers that they have among the query's
abbrev pub asked_by : List (List ℕ) → List ℕ → List ℕ → List Asked
asked_by names vars asked = map (λ v. record { name = name_at names v; var = number_in vars v }) asked

-- the piece of a query
abbrev pub query_by : Section → Draft → ScopeState → Piece
query_by s d scope =
    let vars = query_vars d scope.asked in
    record {
      kind = s.kind;
      name = s.name;
      clauses = map numbered d.clauses;
      query = literals_under (λ v. variable (number_in vars v)) (literals_of d);
      asked = asked_by scope.names vars scope.asked;
      vars = length vars;
    }

-- the query of conditions that were read
abbrev pub query_read : List Template → ℕ → List GroupKind → Section → Token → Result (Found (List Part)) Refusal → Result (Read Piece) Refusal
query_read users count groups s first (Ok f) =
    let d = query_draft (next_pred users groups) f.scope.asked (condition_of f.value) in
    within_limit count groups first f.names (map numbered d.clauses) d.kinds (query_by s d f.scope)
query_read users count groups s first (Err r) = Err r

-- The piece of a query's sentence: its conditions are the query's literals.
unfoldable pub query_of : List Template → List (List ℕ) → ℕ → List GroupKind → Layout → Section → Span → Result (Read Piece) Refusal
query_of users names count groups layout s sentence =
    elim (conditions_of layout sentence) [
      | Ok conds ↦ query_read users count groups s (token_of layout sentence.from) (parts_of users names new_scope true layout conds.nodes)
      | Err r ↦ Err r
    ]

-- the piece of a section with these clauses
abbrev pub clauses_piece : Section → Result (Read (List Clause)) Refusal → Result (Read Piece) Refusal
clauses_piece s (Ok f) = Ok (record { value = record { kind = s.kind; name = s.name; clauses = f.value; query = []; asked = []; vars = 0 }; names = f.names; count = f.count; groups = f.groups })
clauses_piece s (Err r) = Err r

-- the piece of a query, which has one sentence; one without a sentence, which no valid document has, asks for nothing
abbrev pub piece_of_query : List Template → List (List ℕ) → ℕ → List GroupKind → Layout → Section → List Span → Result (Read Piece) Refusal
piece_of_query users names count groups layout s [] = clauses_piece s (clauses_of users names count groups layout [])
piece_of_query users names count groups layout s (span ∷ spans) = query_of users names count groups layout s span

-- the piece of a knowledge base, a scenario or a query
abbrev pub piece_of : List Template → List (List ℕ) → ℕ → List GroupKind → Layout → Section → Result (Read Piece) Refusal
piece_of users names count groups layout s =
    if same_kind s.kind kinds.Query then piece_of_query users names count groups layout s s.sentences
    else clauses_piece s (clauses_of users names count groups layout s.sentences)

-- a piece before those of the sections after it
abbrev pub onto_pieces : Piece → Result (Read (List Piece)) Refusal → Result (Read (List Piece)) Refusal
onto_pieces piece (Ok f) = Ok (record { value = piece ∷ f.value; names = f.names; count = f.count; groups = f.groups })
onto_pieces piece (Err r) = Err r

-- whether a section has rules, facts or a query
abbrev pub is_read : Section → Bool
is_read s = nat_le 2 (Rattle.le_docs.specs.Kinds.kind_number s.kind)

-- the pieces of sections in order, or the first refusal; a target and templates have none
abbrev pub pieces_of : List Template → List (List ℕ) → ℕ → List GroupKind → Layout → List Section → Result (Read (List Piece)) Refusal
pieces_of users names count groups layout [] = Ok (record { value = []; names = names; count = count; groups = groups })
pieces_of users names count groups layout (s ∷ sections) =
    if is_read s then
    elim (piece_of users names count groups layout s) [
      | Ok f ↦ onto_pieces f.value (pieces_of users f.names f.count f.groups layout sections)
      | Err r ↦ Err r
    ]
    else pieces_of users names count groups layout sections

-- the whole of a document's pieces
abbrev pub whole_by : List Template → Result (Read (List Piece)) Refusal → Result Whole Refusal
whole_by users (Ok f) = Ok (record { templates = users; names = f.names; groups = f.groups; pieces = f.value })
whole_by users (Err r) = Err r

-- The whole of a document: its templates first, and then its sentences one by one in the order of the text, or the first refusal.
unfoldable pub program_of : Layout → Doc → Result Whole Refusal
program_of layout doc =
    elim (users_of layout doc) [
      | Ok users ↦ whole_by users (pieces_of users [] 0 [] layout doc.sections)
      | Err r ↦ Err r
    ]
