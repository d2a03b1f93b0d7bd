-- The sentence of an atom, and what it needs to read back: this project's profile.
use Rattle.std.specs.Prelude.{◌≡◌, ℕ, ◌+◌, ◌<◌, ◌==◌, true, false, if◌then◌else◌, Ok, List, [], ◌∷◌, ◌++◌, length, map, codes, decimal}
use Rattle.std.specs.List.{list_any}
use Rattle.le_layout.specs.declared.layout.Layout.{Layout}
use Rattle.le_layout.specs.Layout.{layout_of}
use Rattle.le_templates.specs.declared.part.Template.{Template}
use Rattle.le_templates.specs.Table.{in_use}
use Rattle.le_terms.specs.Tree.{Tree, variable}
use Rattle.le_terms.specs.Names.{HasNoRepeats}
use Rattle.le_terms.specs.Variables.{occurrences, all_occurrences, replaced}
use Rattle.le_scope.specs.Phrases.{is_phrase}
use Rattle.le_scope.specs.Scopes.{ScopeState}
use Rattle.le_match.specs.Readings.{parts_at}
use Rattle.le_match.specs.Sayable.{HasTerms, AreTermsToSay}
use Rattle.le_match.specs.Terms.{term_of}
use Rattle.le_english.specs.Phrases.{phrases_of, term_text}
use Rattle.le_english.specs.Declarations.{AreDeclared}
use Rattle.le_english.specs.Saying.{ReadsBack, sentence_text}

-- The sentence of a predicate with these arguments.
abbrev pub say_text : List Template → List (List ℕ) → ℕ → List Tree → List ℕ
say_text users names pred trees = sentence_text users pred (phrases_of users names [] trees)

-- ---- variables by first occurrence

-- the name of a variable in a text
abbrev pub thing_name : ℕ → List ℕ
thing_name k = codes "thing " ++ decimal k

-- the place of a variable among those printed so far
abbrev pub index_of : List ℕ → ℕ → ℕ
index_of [] v = 0
index_of (k ∷ ks) v = if v == k then 0 else index_of ks v + 1

-- a tree with its variables numbered by their places
abbrev pub numbered : List ℕ → Tree → Tree
numbered ks tree = replaced (λ v. variable (index_of ks v)) tree

-- the variables printed so far, in order of first occurrence, once these occurrences are
abbrev pub printed : List ℕ → List ℕ → List ℕ
printed ks [] = ks
printed ks (v ∷ vs) = printed (if list_any (λ m. v == m) ks then ks else ks ++ v ∷ []) vs

-- a scope whose names are those of the variables printed so far
abbrev pub scope_of : ℕ → List ℕ → ScopeState
scope_of limit ks = record { limit = limit; names = map thing_name ks; asked = [] }

-- the variables of an atom in order of first occurrence
abbrev pub variables_in : List Tree → List ℕ
variables_in trees = printed [] (all_occurrences trees)

-- ---- the atoms that read back

-- the atom of a template in use of a document's templates, with a term for each slot whose names can be quoted
pub record IsAtomToSay (users : List Template) (names : List (List ℕ)) (pred : ℕ) (trees : List Tree) : Type 0 where
  pub declared : AreDeclared users
  pub low : pred < 20 + length users
  pub used : in_use users pred ≡ true
  pub terms : HasTerms (parts_at users pred) trees
  pub distinct : HasNoRepeats names
  pub sayable : AreTermsToSay names trees

-- In an empty scope with as many variables as the atom has, the text has this atom as its single reading, its variables numbered by first occurrence.
abbrev pub ReadsBackAs : List Template → List (List ℕ) → ℕ → List Tree → List ℕ → Type 0
ReadsBackAs users names pred trees text =
    let ks = variables_in trees in
    ReadsBack users names (scope_of (length ks) []) pred (phrases_of users names [] trees) (map (numbered ks) trees) (scope_of (length ks) ks) text

-- So reads the sentence of the atom.
abbrev pub ReadsBackAlone : List Template → List (List ℕ) → ℕ → List Tree → Type 0
ReadsBackAlone users names pred trees = ReadsBackAs users names pred trees (say_text users names pred trees)

-- In an empty scope with as many variables as the term has, the text is a phrase, and reads as the term, its variables numbered by first occurrence.
abbrev pub TermReadsBackAs : List Template → List (List ℕ) → Tree → List ℕ → Type 0
TermReadsBackAs users names tree text =
    let ks = printed [] (occurrences tree) in
    (layout : Layout) × (layout_of text ≡ Ok layout)
    × (is_phrase layout layout.tokens ≡ true)
    × (term_of users names (scope_of (length ks) []) false layout layout.tokens ≡ Ok (record { value = numbered ks tree; names = names; scope = scope_of (length ks) ks }))

-- So reads the text of the term by itself.
abbrev pub TermReadsBack : List Template → List (List ℕ) → Tree → Type 0
TermReadsBack users names tree = TermReadsBackAs users names tree (term_text users names tree)
