-- What the whole of a document keeps: this project's profile.
use Rattle.std.specs.Prelude.{◌≡◌, ℕ, ◌+◌, ◌<◌, ◌≤◌, Some, List, length, flat_map, slice_get}
use Rattle.std.specs.List.{AllByRecursion}
use Rattle.le_terms.specs.declared.program.Clause.{Clause}
use Rattle.le_terms.specs.Program.{IsProgramClause, IsLiteral, HasVariablesBelow, literals_terms, predefined_count, predefined_arities}
use Rattle.le_clauses.specs.declared.whole.Piece.{Piece}
use Rattle.le_clauses.specs.declared.whole.Whole.{Whole}

-- what a piece keeps, where predicates have these numbers of arguments and there are so many
pub record IsPiece (arity : ℕ → ℕ) (predicates : ℕ) (piece : Piece) : Type 0 where
  pub clauses : AllByRecursion (IsProgramClause arity predicates) piece.clauses
  pub query : AllByRecursion (IsLiteral arity predicates) piece.query
  pub query_variables : HasVariablesBelow piece.vars (literals_terms piece.query)
  pub asked : AllByRecursion (λ asked. asked.var < piece.vars) piece.asked
  pub few : piece.vars ≤ 64

-- the clauses of some pieces
abbrev pub all_clauses : List Piece → List Clause
all_clauses pieces = flat_map (λ (p : Piece). p.clauses) pieces

-- how many predicates there are: the predefined ones, those of the users' templates and those of the groups
abbrev pub predicates_of : Whole → ℕ
predicates_of whole = predefined_count + length whole.templates + length whole.groups

-- What the whole of a document keeps: each of its predicates has one number of arguments in all pieces, each piece is valid, and there are at most 50,000 clauses.
pub record IsWhole (whole : Whole) : Type 0 where
  pub arity : ℕ → ℕ
  pub predefined : (pred : ℕ) → pred < predefined_count → slice_get predefined_arities pred ≡ Some (arity pred)
  pub pieces : AllByRecursion (IsPiece arity (predicates_of whole)) whole.pieces
  pub few : length (all_clauses whole.pieces) ≤ 50000
