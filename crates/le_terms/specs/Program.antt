-- Which clauses and programs are well formed: this project's profile.
use Rattle.std.specs.Prelude.{◌≡◌, ◌⊎◌, ℕ, ◌+◌, ◌^◌, ◌<◌, ◌≤◌, List, [], ◌∷◌, ◌++◌, length, slice_get, Some}
use Rattle.std.specs.List.{AllByRecursion}
use Rattle.le_terms.specs.declared.program.Atom.{Atom}
use Rattle.le_terms.specs.declared.program.Form.{Form}
use Rattle.le_terms.specs.declared.program.Form.TheVariants.{Pos, Neg, Calc, Gather}
use Rattle.le_terms.specs.declared.program.Literal.{Literal}
use Rattle.le_terms.specs.declared.program.Clause.{Clause}
use Rattle.le_terms.specs.declared.program.Program.{Program}
use Rattle.le_terms.specs.Tree.{Tree}
use Rattle.le_terms.specs.Variables.{all_occurrences}

-- the atom of a literal's form
abbrev pub form_atom : Form → Atom
form_atom (Pos atom) = atom
form_atom (Neg atom) = atom
form_atom (Calc atom) = atom
form_atom (Gather fold result value atom) = atom

-- the terms of a literal's form
abbrev pub form_terms : Form → List Tree
form_terms (Pos atom) = atom.args
form_terms (Neg atom) = atom.args
form_terms (Calc atom) = atom.args
form_terms (Gather fold result value atom) = result ∷ value ∷ atom.args

-- the terms of some literals
abbrev pub literals_terms : List Literal → List Tree
literals_terms [] = []
literals_terms (literal ∷ literals) = form_terms literal.form ++ literals_terms literals

-- the terms of a clause
abbrev pub clause_terms : Clause → List Tree
clause_terms clause = clause.head.args ++ literals_terms clause.body

-- the variables of some terms have numbers below this one
abbrev pub HasVariablesBelow : ℕ → List Tree → Type 0
HasVariablesBelow vars terms = AllByRecursion (λ v. v < vars) (all_occurrences terms)

-- a clause's variables have numbers below its `vars`, which is at most 64
pub record IsClause (clause : Clause) : Type 0 where
  pub variables : HasVariablesBelow clause.vars (clause_terms clause)
  pub few : clause.vars ≤ 64

-- how many predicates are predefined, and the first of them that isn't computed
abbrev pub predefined_count : ℕ
predefined_count = 20

abbrev pub computed_count : ℕ
computed_count = 18

-- how many arguments each predefined predicate has
abbrev pub predefined_arities : List ℕ
predefined_arities = 2 ∷ 2 ∷ 2 ∷ 2 ∷ 2 ∷ 2 ∷ 2 ∷ 2 ∷ 2 ∷ 2 ∷ 3 ∷ 3 ∷ 3 ∷ 3 ∷ 3 ∷ 3 ∷ 3 ∷ 2 ∷ 2 ∷ 3 ∷ []

-- an atom has a predicate of the program, with that predicate's number of arguments
abbrev pub HasArity : (ℕ → ℕ) → ℕ → Atom → Type 0
HasArity arity predicates atom = (atom.pred < predicates) × (length atom.args ≡ arity atom.pred)

-- computed predicates stand in computed literals, and no other predicate does
abbrev pub StandsInPlace : Form → Type 0
StandsInPlace (Pos atom) = computed_count ≤ atom.pred
StandsInPlace (Neg atom) = computed_count ≤ atom.pred
StandsInPlace (Calc atom) = atom.pred < computed_count
StandsInPlace (Gather fold result value atom) = computed_count ≤ atom.pred

-- a literal's predicate stands in its place and has its number of arguments
abbrev pub IsLiteral : (ℕ → ℕ) → ℕ → Literal → Type 0
IsLiteral arity predicates literal = StandsInPlace literal.form × HasArity arity predicates (form_atom literal.form)

-- a clause whose predicates do so, and whose body's length fits
pub record IsProgramClause (arity : ℕ → ℕ) (predicates : ℕ) (clause : Clause) : Type 0 where
  pub variables : IsClause clause
  pub head : HasArity arity predicates clause.head
  pub not_computed : computed_count ≤ clause.head.pred
  pub body : AllByRecursion (IsLiteral arity predicates) clause.body
  pub short : length clause.body < 2 ^ 31

-- a program: each of its predicates has one number of arguments everywhere, its clauses are well formed and fewer than 2^31, and the variables of its query have numbers below its `vars`, which is at most 64
pub record IsProgram (program : Program) : Type 0 where
  pub arity : ℕ → ℕ
  pub predefined : (pred : ℕ) → pred < predefined_count → slice_get predefined_arities pred ≡ Some (arity pred)
  pub clauses : AllByRecursion (IsProgramClause arity (predefined_count + program.users + length program.groups)) program.clauses
  pub count : length program.clauses < 2 ^ 31
  pub query : AllByRecursion (IsLiteral arity (predefined_count + program.users + length program.groups)) program.query
  pub query_variables : HasVariablesBelow program.vars (literals_terms program.query)
  pub asked : AllByRecursion (λ asked. asked.var < program.vars) program.asked
  pub few : program.vars ≤ 64
  pub version : (program.version ≡ 1) ⊎ (program.version ≡ 2)
