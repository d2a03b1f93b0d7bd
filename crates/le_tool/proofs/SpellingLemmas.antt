-- The derivations of the answers of an accepted document have a spelling.
use Rattle.std.proofs.Common.{◌≡◌, ℕ, ◌+◌, ◌*◌, ◌^◌, ◌<◌, ◌≤◌, List, [], ◌∷◌, ◌++◌, map, length, Option, Ok, arith}
use Rattle.std.specs.List.{AllByRecursion}
use Rattle.le_templates.specs.declared.part.Template.{Template}
use Rattle.le_terms.specs.Tree.{Tree, constant, number as numeral, date, variable, nil, cell, flat}
use Rattle.le_terms.specs.Variables.{occurrences, all_occurrences, canonical_of}
use Rattle.le_terms.specs.Program.{HasVariablesBelow, IsProgram}
use Rattle.le_terms.specs.declared.term.Sym.{Sym}
use Rattle.le_terms.specs.declared.program.Atom.{Atom}
use Rattle.le_terms.specs.declared.program.Program.{Program}
use Rattle.le_clauses.specs.declared.whole.Whole.{Whole}
use Rattle.le_clauses.specs.Selection.{selected}
use Rattle.le_clauses.proofs.Sayable.{sayable}
use Rattle.le_proofs.specs.declared.node.Node.{Node}
use Rattle.le_proofs.specs.declared.node.Node.TheVariants.{Use, Compute, Absent, Gather, Split, Branch, Computed, Lacking, Present, Gathered, Ungathered, Success, Dead}
use Rattle.le_proofs.specs.Derivations.{node_terms, nodes_terms, certificate_of}
use Rattle.le_proofs.specs.Proofs.{Leaf}
use Rattle.le_proofs.specs.Search.{answers_of}
use Rattle.le_proofs.proofs.Alls.{all-left, all-right, all-both}
use Rattle.le_proofs.proofs.Below.{more-below, front-below, back-below}
use Rattle.le_proofs.proofs.FewVariables.{few-variables}
use Rattle.le_proofs.proofs.SearchNodes.{IsNumbered, IsSmall, predicates_in, answers-small}
use Rattle.le_english.proofs.NamedTerms.{IsNamed, AreNamed}
use Rattle.le_english.proofs.SaidNodes.{NodeFits, answers-said}
use Rattle.le_prooftext.specs.declared.word.Word.TheVariants as word
use Rattle.le_prooftext.specs.Words.{IsSymbol, IsWord}
use Rattle.le_prooftext.specs.Lines.{term_words, terms_words, atom_words, IsSpellable, AreSpellable}
use Rattle.le_tool.proofs.SentenceLemmas.{Comes, selected-valid}

-- what is known of the variables of an answer
abbrev IsFew : ℕ → Leaf → Type 0
IsFew budget leaf = HasVariablesBelow (65 + 64 * budget) (canonical_of leaf.terms) × HasVariablesBelow (65 + 64 * budget) (certificate_of leaf).values × HasVariablesBelow (65 + 64 * budget) (nodes_terms (certificate_of leaf).nodes)

module _ (users : List Template) (names : List (List ℕ)) (few : length names ≤ 2 ^ 32) where
  symbols-spelled : (tree : Tree) → IsNamed names tree → AllByRecursion (λ v. v < 2 ^ 32) (occurrences tree) → AllByRecursion IsSymbol (flat tree)
  symbols-spelled (constant n) h low = (let inside : n < length names = h.0 in omega (arith, few), tt)
  symbols-spelled (numeral z) h low = (h, tt)
  symbols-spelled (date d) h low = (h, tt)
  symbols-spelled (variable v) h low = (let less : v < 2 ^ 32 = low.0 in omega arith, tt)
  symbols-spelled nil h low = (tt, tt)
  symbols-spelled (cell head tail) h low = (
    tt,
    all-both IsSymbol (flat head) (flat tail)
        (symbols-spelled head h.0 (all-left (λ v. v < 2 ^ 32) (occurrences head) (occurrences tail) low))
        (symbols-spelled tail h.1 (all-right (λ v. v < 2 ^ 32) (occurrences head) (occurrences tail) low)),
  )

  words-of : (symbols : List Sym) → AllByRecursion IsSymbol symbols → AllByRecursion IsWord (map (λ s. word.Symbol s) symbols)
  words-of [] h = tt
  words-of (s ∷ symbols) h = (h.0, words-of symbols h.1)

  term-spelled : (tree : Tree) → IsNamed names tree → AllByRecursion (λ v. v < 2 ^ 32) (occurrences tree) → AllByRecursion IsWord (term_words tree)
  term-spelled tree h low = words-of (flat tree) (symbols-spelled tree h low)

  terms-spelled : (trees : List Tree) → AreNamed names trees → HasVariablesBelow (2 ^ 32) trees → AllByRecursion IsWord (terms_words trees)
  terms-spelled [] h low = tt
  terms-spelled (tree ∷ trees) h low =
      all-both IsWord (term_words tree) (terms_words trees)
      (term-spelled tree h.0 (all-left (λ v. v < 2 ^ 32) (occurrences tree) (all_occurrences trees) low))
      (terms-spelled trees h.1 (all-right (λ v. v < 2 ^ 32) (occurrences tree) (all_occurrences trees) low))

  module _ (predicates : ℕ) (small : predicates ≤ 2 ^ 32) where
    atom-spelled : (atom : Atom) → atom.pred < predicates → AreNamed names atom.args → HasVariablesBelow (2 ^ 32) atom.args → AllByRecursion IsWord (atom_words atom)
    atom-spelled atom less h low = (omega (arith, less, small), terms-spelled atom.args h low)

    node-spelled : (node : Node) → IsNumbered predicates node → NodeFits users names node → HasVariablesBelow (2 ^ 32) (node_terms node) → IsSpellable node
    node-spelled (Use clause count atom) is h low = (tt, (omega (arith, is.0), (omega (arith, is.1), atom-spelled atom is.2 h.1 low)))
    node-spelled (Compute atom) is h low = (tt, atom-spelled atom is h.1 low)
    node-spelled (Absent atom) is h low = (tt, atom-spelled atom is h.1 low)
    node-spelled (Gather fold result value atom) is h low =
        let behind : HasVariablesBelow (2 ^ 32) (value ∷ atom.args) = all-right (λ v. v < 2 ^ 32) (occurrences result) (all_occurrences (value ∷ atom.args)) low in (
          tt,
          (
            tt,
            all-both IsWord (term_words result) (term_words value ++ atom_words atom)
                (term-spelled result h.1 (all-left (λ v. v < 2 ^ 32) (occurrences result) (all_occurrences (value ∷ atom.args)) low))
                (all-both IsWord (term_words value) (atom_words atom)
                (term-spelled value h.2 (all-left (λ v. v < 2 ^ 32) (occurrences value) (all_occurrences atom.args) behind))
                (atom-spelled atom is h.0.1 (all-right (λ v. v < 2 ^ 32) (occurrences value) (all_occurrences atom.args) behind))),
          ),
        )
    node-spelled (Split count) is h low = (tt, (omega (arith, is), tt))
    node-spelled (Branch clause) is h low = (tt, (omega (arith, is), tt))
    node-spelled Computed is h low = (tt, tt)
    node-spelled Lacking is h low = (tt, tt)
    node-spelled Present is h low = (tt, tt)
    node-spelled Gathered is h low = (tt, tt)
    node-spelled Ungathered is h low = (tt, tt)
    node-spelled Success is h low = (tt, tt)
    node-spelled Dead is h low = (tt, tt)

    nodes-spelled : (nodes : List Node) → AllByRecursion (IsNumbered predicates) nodes → AllByRecursion (NodeFits users names) nodes → HasVariablesBelow (2 ^ 32) (nodes_terms nodes) → AllByRecursion IsSpellable nodes
    nodes-spelled [] is h low = tt
    nodes-spelled (node ∷ nodes) is h low = (
      node-spelled node is.0 h.0 (front-below (2 ^ 32) (node_terms node) (nodes_terms nodes) low),
      nodes-spelled nodes is.1 h.1 (back-below (2 ^ 32) (node_terms node) (nodes_terms nodes) low),
    )

    leaves-spelled : (budget : ℕ) → budget ≤ 1000000 → (leaves : List Leaf) → AllByRecursion (IsSmall predicates budget) leaves → AllByRecursion (λ leaf. AllByRecursion (NodeFits users names) (certificate_of leaf).nodes) leaves → AllByRecursion (IsFew budget) leaves
        → AllByRecursion (λ leaf. AreSpellable (certificate_of leaf).nodes) leaves
    leaves-spelled budget low [] small_ said below = tt
    leaves-spelled budget low (leaf ∷ leaves) small_ said below = (
      (
        let count : length (certificate_of leaf).nodes ≤ 8589934592 * budget = small_.0.few in omega (arith, low),
        nodes-spelled (certificate_of leaf).nodes small_.0.numbers said.0 (more-below (65 + 64 * budget) (2 ^ 32) (omega (arith, low)) (nodes_terms (certificate_of leaf).nodes) below.0.2),
      ),
      leaves-spelled budget low leaves small_.1 said.1 below.1,
    )

-- the answers of a program that is selected from a document
pub answers-spelled : (whole : Whole) → Comes whole → (scenario : Option (List ℕ)) (query : List ℕ) (program : Program) (budget : ℕ) → budget ≤ 1000000 → selected whole scenario query ≡ Ok program
    → length whole.names ≤ 2 ^ 32 → predicates_in program ≤ 2 ^ 32 → AllByRecursion (λ leaf. AreSpellable (certificate_of leaf).nodes) (answers_of program budget)
answers-spelled whole comes scenario query program budget low e few small =
    let valid : IsProgram program = selected-valid whole comes scenario query program e in
    leaves-spelled whole.templates whole.names few (predicates_in program) small budget low (answers_of program budget) (answers-small program budget valid)
    (answers-said whole.templates whole.names program budget valid.count low (sayable comes.layout comes.doc whole scenario query program comes.valid comes.comes e))
    (few-variables program budget valid)
