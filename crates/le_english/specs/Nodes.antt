-- Answers whose sentences read back: this project's profile.
use Rattle.std.specs.Prelude.{ℕ, ◌+◌, ◌<◌, ◌≤◌, List, length}
use Rattle.std.specs.List.{AllByRecursion}
use Rattle.le_templates.specs.declared.part.Template.{Template}
use Rattle.le_terms.specs.Variables.{canonical_of}
use Rattle.le_terms.specs.Program.{IsProgram}
use Rattle.le_terms.specs.declared.program.Atom.{Atom}
use Rattle.le_terms.specs.declared.program.Program.{Program}
use Rattle.le_match.specs.Sayable.{IsProgramToSay}
use Rattle.le_proofs.specs.declared.node.Node.{Node}
use Rattle.le_proofs.specs.declared.node.Node.TheVariants.{Use, Compute, Absent, Gather}
use Rattle.le_proofs.specs.Proofs.{Leaf}
use Rattle.le_proofs.specs.Derivations.{certificate_of}
use Rattle.le_proofs.specs.Search.{answers_of}
use Rattle.le_english.specs.Atoms.{ReadsBackAlone, TermReadsBack}
use Rattle.le_english.specs.Declarations.{AreDeclared}

-- the sentence of an atom reads back as the atom alone; one that is of no template has none
abbrev pub SentenceReadsBack : List Template → List (List ℕ) → Atom → Type 0
SentenceReadsBack users names atom = atom.pred < 20 + length users → ReadsBackAlone users names atom.pred atom.args

-- What the line of a node says reads back: the sentence of its atom, or the result of a gather. The nodes of trees have no line.
abbrev pub NodeReadsBack : List Template → List (List ℕ) → Node → Type 0
NodeReadsBack users names (Use clause count atom) = SentenceReadsBack users names atom
NodeReadsBack users names (Compute atom) = SentenceReadsBack users names atom
NodeReadsBack users names (Absent atom) = SentenceReadsBack users names atom
NodeReadsBack users names (Gather fold result value atom) = TermReadsBack users names result
NodeReadsBack users names node = Unit {0}

-- the values of an answer and the lines of the nodes of its derivation read back
pub record AnswerReadsBack (users : List Template) (names : List (List ℕ)) (leaf : Leaf) : Type 0 where
  pub values : AllByRecursion (TermReadsBack users names) (canonical_of leaf.terms)
  pub nodes : AllByRecursion (NodeReadsBack users names) (certificate_of leaf).nodes

-- Each answer of a program that can be said reads back, with each line of its explanation, where the search may make at most 1,000,000 selections.
abbrev pub AnswersReadBack : Type 0
AnswersReadBack =
    (users : List Template) (names : List (List ℕ)) (program : Program) (budget : ℕ)
    → AreDeclared users → IsProgram program → IsProgramToSay users names program → budget ≤ 1000000
    → AllByRecursion (AnswerReadsBack users names) (answers_of program budget)
