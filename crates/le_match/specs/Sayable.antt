-- The terms, atoms and programs that sentences can say, and what a phrase and a sentence are read as: this project's profile.
use Rattle.std.specs.Prelude.{◌≡◌, ℕ, ◌+◌, ◌^◌, ◌<◌, ◌≤◌, Bool, true, Ok, List, [], ◌∷◌, ◌++◌, length, slice_index_or}
use Rattle.std.specs.List.{All, AllByRecursion}
use Rattle.le_layout.specs.declared.token.Token.{Token}
use Rattle.le_layout.specs.declared.layout.Layout.{Layout}
use Rattle.le_layout.specs.Layout.{IsTokenIn, IsLayout}
use Rattle.le_layout.specs.Written.{IsQuotable}
use Rattle.le_templates.specs.declared.part.Part.{Part}
use Rattle.le_templates.specs.declared.part.Part.TheVariants.{Word, Slot}
use Rattle.le_templates.specs.declared.part.Template.{Template}
use Rattle.le_templates.specs.Table.{in_use}
use Rattle.le_base.specs.Ranges.{IsNumber, IsDay}
use Rattle.le_terms.specs.Tree.{Tree, constant, number, date, variable, nil, cell}
use Rattle.le_terms.specs.Names.{HasNoRepeats}
use Rattle.le_terms.specs.declared.program.Atom.{Atom}
use Rattle.le_terms.specs.declared.program.Literal.{Literal}
use Rattle.le_terms.specs.declared.program.Clause.{Clause}
use Rattle.le_terms.specs.declared.program.Program.{Program}
use Rattle.le_terms.specs.Program.{form_atom, form_terms, clause_terms, HasVariablesBelow}
use Rattle.le_scope.specs.Scopes.{ScopeState, IsScope}
use Rattle.le_match.specs.Readings.{parts_at}
use Rattle.le_match.specs.Terms.{Found, term_of, atom_of}

-- there is a term for each slot
abbrev pub HasTerms : List Part → List Tree → Type 0
HasTerms [] [] = Unit {0}
HasTerms [] (tree ∷ trees) = ⊥
HasTerms (Word w ∷ parts) trees = HasTerms parts trees
HasTerms (Slot s ∷ parts) [] = ⊥
HasTerms (Slot s ∷ parts) (tree ∷ trees) = HasTerms parts trees

-- each constant of a term has a name, which holds only what a quoted text may hold, and its numbers, days and variables are those that a term may have
abbrev pub IsTermToSay : List (List ℕ) → Tree → Type 0
IsTermToSay names (constant n) = (n < length names) × IsQuotable (slice_index_or names n [])
IsTermToSay names (number z) = IsNumber z
IsTermToSay names (date d) = IsDay d
IsTermToSay names (variable v) = v < 2 ^ 32
IsTermToSay names nil = Unit {0}
IsTermToSay names (cell head tail) = IsTermToSay names head × IsTermToSay names tail

abbrev pub AreTermsToSay : List (List ℕ) → List Tree → Type 0
AreTermsToSay names [] = Unit {0}
AreTermsToSay names (tree ∷ trees) = IsTermToSay names tree × AreTermsToSay names trees

-- ---- what the reader gives

-- an atom of a template, predefined or the user's, has one in use, with a term for each slot; the predicates after them are the groups', which no sentence says
abbrev pub HasTemplate : List Template → Atom → Type 0
HasTemplate users atom = atom.pred < 20 + length users → (in_use users atom.pred ≡ true) × HasTerms (parts_at users atom.pred) atom.args

-- a literal whose atom has its template and whose terms can be said
pub record IsLiteralToSay (users : List Template) (names : List (List ℕ)) (literal : Literal) : Type 0 where
  pub template : HasTemplate users (form_atom literal.form)
  pub terms : AreTermsToSay names (form_terms literal.form)

-- A clause whose terms can be said, and the atoms of whose body have their templates, where the predicate of its head is a group's or that of a template in use: the clauses of a predefined template that the document leaves out call it only among themselves.
pub record IsClauseToSay (users : List Template) (names : List (List ℕ)) (clause : Clause) : Type 0 where
  pub terms : AreTermsToSay names (clause_terms clause)
  pub body : (clause.head.pred < 20 + length users → in_use users clause.head.pred ≡ true) → AllByRecursion (λ literal. HasTemplate users (form_atom literal.form)) clause.body

-- A program, none of whose names is there twice, whose clauses and query can be said.
pub record IsProgramToSay (users : List Template) (names : List (List ℕ)) (program : Program) : Type 0 where
  pub distinct : HasNoRepeats names
  pub clauses : AllByRecursion (IsClauseToSay users names) program.clauses
  pub query : AllByRecursion (IsLiteralToSay users names) program.query

-- names, none of which is there twice, that quoted texts can hold
pub record AreNamesToSay (names : List (List ℕ)) : Type 0 where
  pub distinct : HasNoRepeats names
  pub quotable : AllByRecursion IsQuotable names

-- names, and these with more after them
abbrev pub Grows : List (List ℕ) → List (List ℕ) → Type 0
Grows before after = (more : List (List ℕ)) × (after ≡ before ++ more)

-- What is kept where terms were read from some names and a scope on: the names can be said still, and no name, new or old, of names or scope is lost; the terms can be said by the names after, and their variables are those of the scope after.
pub record AreRead (names : List (List ℕ)) (scope : ScopeState) (after : List (List ℕ)) (scope_after : ScopeState) (terms : List Tree) : Type 0 where
  pub names_ : AreNamesToSay after
  pub grows : Grows names after
  pub limit : scope_after.limit ≡ scope.limit
  pub scope_ : IsScope scope_after
  pub more : length scope.names ≤ length scope_after.names
  pub terms_ : AreTermsToSay after terms
  pub variables : HasVariablesBelow (length scope_after.names) terms

-- The terms of phrases are those that can be said.
abbrev pub TermsAreRead : Type 0
TermsAreRead =
    (users : List Template) (names : List (List ℕ)) (scope : ScopeState) (query : Bool) (layout : Layout) (ts : List Token) (f : Found Tree)
    → IsLayout layout → All (IsTokenIn layout.text) ts → AreNamesToSay names → IsScope scope
    → term_of users names scope query layout ts ≡ Ok f
    → AreRead names scope f.names f.scope (f.value ∷ [])

-- The atom of a sentence is of a template in use, with a term that can be said for each slot.
abbrev pub AtomsAreRead : Type 0
AtomsAreRead =
    (users : List Template) (names : List (List ℕ)) (scope : ScopeState) (query : Bool) (layout : Layout) (ts : List Token) (f : Found Atom)
    → IsLayout layout → All (IsTokenIn layout.text) ts → AreNamesToSay names → IsScope scope
    → atom_of users names scope query layout ts ≡ Ok f
    → (f.value.pred < 20 + length users)
    × (in_use users f.value.pred ≡ true)
    × HasTerms (parts_at users f.value.pred) f.value.args
    × AreRead names scope f.names f.scope f.value.args
