-- The program of a query under a scenario: this project's profile.
use Rattle.std.specs.Prelude.{ℕ, Bool, ◌&&◌, if◌then◌else◌, Option, Some, None, Result, Ok, Err, List, [], ◌∷◌, ◌++◌, length, flat_map, find}
use Rattle.std.specs.Str.{bytes_eq}
use Rattle.le_base.specs.declared.code.Code.TheVariants.{NoScenario, NoQuery}
use Rattle.le_base.specs.declared.stop.Refusal.{Refusal}
use Rattle.le_base.specs.Stop.{refusal_at}
use Rattle.le_docs.specs.declared.doc.SectionKind.{SectionKind}
use Rattle.le_docs.specs.declared.doc.SectionKind.TheVariants as kinds
use Rattle.le_docs.specs.Kinds.{same_kind}
use Rattle.le_terms.specs.Tree.{Tree, variable, nil, cell}
use Rattle.le_terms.specs.declared.program.Form.TheVariants.{Pos}
use Rattle.le_terms.specs.declared.program.Literal.{Literal}
use Rattle.le_terms.specs.declared.program.ClauseKind.TheVariants.{Prelude}
use Rattle.le_terms.specs.declared.program.Clause.{Clause}
use Rattle.le_terms.specs.declared.program.Program.{Program}
use Rattle.le_clauses.specs.declared.whole.Piece.{Piece}
use Rattle.le_clauses.specs.declared.whole.Whole.{Whole}

-- whether a piece is of this kind and has this name
abbrev pub is_named : SectionKind → List ℕ → Piece → Bool
is_named kind name piece = same_kind piece.kind kind && bytes_eq piece.name name

-- the clauses of the knowledge bases, in the order of the text
unfoldable pub knowledge : List Piece → List Clause
knowledge pieces = flat_map (λ (p : Piece). if same_kind p.kind kinds.Knowledge then p.clauses else []) pieces

-- the clause of a predefined predicate, with so many variables
abbrev pub prelude_clause : ℕ → List Tree → List Literal → ℕ → Clause
prelude_clause pred args body vars = record { head = record { pred = pred; args = args }; body = body; vars = vars; line = 0; kind = Prelude }

-- the condition of a clause of a predefined predicate
abbrev pub prelude_literal : ℕ → List Tree → Literal
prelude_literal pred args = record { line = 0; form = Pos (record { pred = pred; args = args }) }

-- The clauses of the predefined predicates that aren't computed. X is in [X | L]; X is in [Y | L] if X is in L; [] followed by L is L; [X | A] followed by B is [X | C] if A followed by B is C.
unfoldable pub prelude : List Clause
prelude =
    prelude_clause 18 (variable 0 ∷ cell (variable 0) (variable 1) ∷ []) [] 2
    ∷ prelude_clause 18 (variable 0 ∷ cell (variable 1) (variable 2) ∷ []) (prelude_literal 18 (variable 0 ∷ variable 2 ∷ []) ∷ []) 3
    ∷ prelude_clause 19 (nil ∷ variable 0 ∷ variable 0 ∷ []) [] 1
    ∷ prelude_clause 19 (cell (variable 0) (variable 1) ∷ variable 2 ∷ cell (variable 0) (variable 3) ∷ []) (prelude_literal 19 (variable 1 ∷ variable 2 ∷ variable 3 ∷ []) ∷ []) 4
    ∷ []

-- the program of a query over these clauses, after which those of its groups and the prelude stand
abbrev pub program_over : Whole → List Clause → Option Piece → Result Program Refusal
program_over whole clauses None = Err (refusal_at NoQuery 0 0)
program_over whole clauses (Some q) = Ok (record { clauses = clauses ++ (q.clauses ++ prelude); query = q.query; asked = q.asked; vars = q.vars; users = length whole.templates; groups = whole.groups; version = 1 })

-- the clauses of the knowledge bases, and after them those of the scenario, where one is asked for and it is there
abbrev pub clauses_under : Whole → Option (List ℕ) → Result (List Clause) Refusal
clauses_under whole None = Ok (knowledge whole.pieces)
clauses_under whole (Some scenario) =
    elim (find (is_named kinds.Scenario scenario) whole.pieces) [
      | Some piece ↦ Ok (knowledge whole.pieces ++ piece.clauses)
      | None ↦ Err (refusal_at NoScenario 0 0)
    ]

-- The program of the query of a name under a scenario: the clauses of the knowledge bases, of the scenario and of the query's groups, and the prelude, or the refusal of a name that the document hasn't.
unfoldable pub selected : Whole → Option (List ℕ) → List ℕ → Result Program Refusal
selected whole scenario query =
    elim (clauses_under whole scenario) [
      | Ok clauses ↦ program_over whole clauses (find (is_named kinds.Query query) whole.pieces)
      | Err r ↦ Err r
    ]
