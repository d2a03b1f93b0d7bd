-- What the whole of a document keeps whose sections are accepted: this project's profile.
use Rattle.std.specs.Prelude.{◌≡◌, ◌≢◌, ℕ, Ok, List, [], ◌∷◌}
use Rattle.std.specs.List.{AllByRecursion}
use Rattle.le_layout.specs.declared.layout.Layout.{Layout}
use Rattle.le_layout.specs.Layout.{IsLayout}
use Rattle.le_docs.specs.declared.doc.SectionKind.{SectionKind}
use Rattle.le_docs.specs.declared.doc.SectionKind.TheVariants as kinds
use Rattle.le_docs.specs.declared.doc.Doc.{Doc}
use Rattle.le_docs.specs.Sections.{sections_of}
use Rattle.le_templates.specs.declared.part.Template.{Template}
use Rattle.le_match.specs.Sayable.{IsLiteralToSay, IsClauseToSay, AreNamesToSay}
use Rattle.le_clauses.specs.declared.whole.Piece.{Piece}
use Rattle.le_clauses.specs.declared.whole.Whole.{Whole}
use Rattle.le_clauses.specs.Pieces.{program_of}
use Rattle.le_clauses.specs.Validity.{IsWhole}

-- a piece of this kind has another name than this
abbrev pub HasOtherName : SectionKind → List ℕ → Piece → Type 0
HasOtherName kind name piece = piece.kind ≡ kind → piece.name ≢ name

-- no two pieces of this kind have one name: each has another name than those of the kind that follow it
abbrev pub AreApart : SectionKind → List Piece → Type 0
AreApart kind [] = Unit {0}
AreApart kind (piece ∷ pieces) = (piece.kind ≡ kind → AllByRecursion (HasOtherName kind piece.name) pieces) × AreApart kind pieces

-- a query has a literal at least
abbrev pub AsksSomething : Piece → Type 0
AsksSomething piece = piece.kind ≡ kinds.Query → piece.query ≢ []

-- the clauses and the query of a piece can be said with these names
pub record IsPieceToSay (users : List Template) (names : List (List ℕ)) (piece : Piece) : Type 0 where
  pub clauses : AllByRecursion (IsClauseToSay users names) piece.clauses
  pub query : AllByRecursion (IsLiteralToSay users names) piece.query

-- The whole of a document is valid. No two scenarios have one name, and no two queries; each query asks something. None of the document's names is there twice, quoted texts can hold them, and all that its pieces say is said with them: the number of each constant is that of a name.
pub record IsDocument (whole : Whole) : Type 0 where
  pub sound : IsWhole whole
  pub scenarios : AreApart kinds.Scenario whole.pieces
  pub queries : AreApart kinds.Query whole.pieces
  pub asks : AllByRecursion AsksSomething whole.pieces
  pub quotable : AreNamesToSay whole.names
  pub pieces : AllByRecursion (IsPieceToSay whole.templates whole.names) whole.pieces

-- The whole of a document keeps this where its sections are accepted.
abbrev pub DocumentsAreValid : Type 0
DocumentsAreValid =
    (layout : Layout) (doc : Doc) (whole : Whole)
    → IsLayout layout → sections_of layout ≡ Ok doc → program_of layout doc ≡ Ok whole
    → IsDocument whole
