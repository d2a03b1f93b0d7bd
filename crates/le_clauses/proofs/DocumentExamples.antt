-- Worked examples of what the whole of a document keeps.
use Rattle.std.proofs.Common.{◌≡◌, ℕ, List, [], ◌∷◌, refl}
use Rattle.le_docs.specs.declared.doc.SectionKind.{SectionKind}
use Rattle.le_docs.specs.declared.doc.SectionKind.TheVariants as kinds
use Rattle.le_terms.specs.declared.program.Form.TheVariants.{Pos}
use Rattle.le_terms.specs.declared.program.Literal.{Literal}
use Rattle.le_clauses.specs.declared.whole.Piece.{Piece}
use Rattle.le_clauses.specs.Documents.{AreApart, AsksSomething}

-- a piece that asks for these literals
abbrev piece : SectionKind → List ℕ → List Literal → Piece
piece kind name query = record { kind = kind; name = name; clauses = []; query = query; asked = []; vars = 0 }

abbrev likes : Literal
likes = record { line = 1; form = Pos (record { pred = 20; args = [] }) }

-- two scenarios of one name aren't apart, whatever stands between them
twice : (between : Piece) → AreApart kinds.Scenario (piece kinds.Scenario (115 ∷ []) [] ∷ between ∷ piece kinds.Scenario (115 ∷ []) [] ∷ []) → ⊥
twice between h = (h.0 refl).1.0 refl refl

-- a scenario and a query may have one name
apart : AreApart kinds.Scenario (piece kinds.Scenario (115 ∷ []) [] ∷ piece kinds.Query (115 ∷ []) (likes ∷ []) ∷ [])
apart = ((λ same. ((λ (other : kinds.Query ≡ kinds.Scenario) name. absurd cc), tt)), ((λ (same : kinds.Query ≡ kinds.Scenario). tt), tt))

-- a query without a literal asks nothing
asks : AsksSomething (piece kinds.Query (113 ∷ []) (likes ∷ []))
asks same none = absurd cc

nothing : AsksSomething (piece kinds.Query (113 ∷ []) []) → ⊥
nothing h = h refl refl
