-- The nodes of a derivation whose proofs hold only atoms that can be said, and its answer's values, read back.
use Rattle.std.proofs.Common.{ℕ, suc, ◌+◌, ◌*◌, ◌^◌, ◌<◌, ◌≤◌, arith, List, [], ◌∷◌, ◌++◌, map, length}
use Rattle.std.specs.List.{AllByRecursion}
use Rattle.le_templates.specs.declared.part.Template.{Template}
use Rattle.le_terms.specs.Tree.{Tree, constant, number as numeral, date, variable, nil, cell}
use Rattle.le_terms.specs.Names.{HasNoRepeats}
use Rattle.le_terms.specs.Program.{HasVariablesBelow}
use Rattle.le_terms.specs.Variables.{occurrences, all_occurrences, all_variables, place_in, canonical_of}
use Rattle.le_terms.specs.declared.program.Atom.{Atom}
use Rattle.le_terms.specs.declared.program.Literal.{Literal}
use Rattle.le_terms.specs.declared.program.Program.{Program}
use Rattle.le_match.specs.Sayable.{IsTermToSay, AreTermsToSay, IsProgramToSay}
use Rattle.le_proofs.specs.declared.node.Node.{Node}
use Rattle.le_proofs.specs.declared.node.Node.TheVariants.{Use, Compute, Absent, Gather, Split, Branch, Computed, Lacking, Present, Gathered, Ungathered, Success, Dead}
use Rattle.le_proofs.specs.Proofs.{Proof, by_clause, by_computing, by_failure, by_gathering, Proofs, none, first, packed, WholeTree, success, split, computed, dead, lacking, present, gathered, ungathered, WholeBranches, no_branch, branch, Leaf}
use Rattle.le_proofs.specs.Derivations.{proof_nodes, proofs_nodes, tree_nodes, branches_nodes, node_under, node_terms, nodes_terms, numbered, scoped, times, parts_of, scope_below, told_apart, certificate_of}
use Rattle.le_proofs.specs.Goals.{terms_under}
use Rattle.le_proofs.specs.Search.{answers_of}
use Rattle.le_proofs.proofs.Alls.{all-left, all-right, all-both, all-weaken}
use Rattle.le_proofs.proofs.Below.{more-below, front-below, back-below}
use Rattle.le_proofs.proofs.FewVariables.{few-variables}
use Rattle.le_english.specs.Declarations.{AreDeclared}
use Rattle.le_english.specs.Atoms.{TermReadsBack}
use Rattle.le_english.specs.Nodes.{SentenceReadsBack, NodeReadsBack, AnswerReadsBack, AnswersReadBack}
use Rattle.le_english.proofs.AtomLemmas.{atom-back}
use Rattle.le_english.proofs.TermLemmas.{term-back}
use Rattle.le_english.proofs.NamedTerms.{IsNamed, AreNamed, MapsNamed, replaced-named, under-named}
use Rattle.le_english.proofs.SaidLiterals.{AtomFits, atom-under}
use Rattle.le_english.proofs.SaidTrees.{ProofFits, ProofsFit, TreeFits, BranchesFit, packed-fits, LeafFits, answers-fit}

-- what is known of the variables of an answer
abbrev IsFew : ℕ → Leaf → Type 0
IsFew budget leaf = HasVariablesBelow (65 + 64 * budget) (canonical_of leaf.terms) × HasVariablesBelow (65 + 64 * budget) (certificate_of leaf).values × HasVariablesBelow (65 + 64 * budget) (nodes_terms (certificate_of leaf).nodes)

module _ (users : List Template) (names : List (List ℕ)) where
  -- the atom of a node has its template, and the constants of the node's terms have names
  abbrev pub NodeFits : Node → Type 0
  NodeFits (Use clause count atom) = AtomFits users names atom
  NodeFits (Compute atom) = AtomFits users names atom
  NodeFits (Absent atom) = AtomFits users names atom
  NodeFits (Gather fold result value atom) = AtomFits users names atom × IsNamed names result × IsNamed names value
  NodeFits node = Unit {0}

  mutual
    proof-fits : (proof : Proof) → ProofFits users names proof → AllByRecursion NodeFits (proof_nodes proof)
    proof-fits (by_clause number atom proofs) h = (h.0, proofs-fit proofs h.1)
    proof-fits (by_computing atom) h = (h, tt)
    proof-fits (by_failure atom t) h = (h.0, tree-fits t h.1)
    proof-fits (by_gathering fold result value atom t) h = ((h.0, h.1.0, h.1.1), tree-fits t h.2)

    proofs-fit : (proofs : Proofs) → ProofsFit users names proofs → AllByRecursion NodeFits (proofs_nodes proofs)
    proofs-fit none h = tt
    proofs-fit (first proof proofs) h = all-both NodeFits (proof_nodes proof) (proofs_nodes proofs) (proof-fits proof h.0) (proofs-fit proofs h.1)

    tree-fits : (t : WholeTree) → TreeFits users names t → AllByRecursion NodeFits (tree_nodes t)
    tree-fits success h = (tt, tt)
    tree-fits (split branches) h = (tt, branches-fit branches h)
    tree-fits (computed t) h = (tt, tree-fits t h)
    tree-fits dead h = (tt, tt)
    tree-fits (lacking sub t) h = (tt, all-both NodeFits (tree_nodes sub) (tree_nodes t) (tree-fits sub h.0) (tree-fits t h.1))
    tree-fits (present proof) h = (tt, proof-fits proof h)
    tree-fits (gathered sub t) h = (tt, all-both NodeFits (tree_nodes sub) (tree_nodes t) (tree-fits sub h.0) (tree-fits t h.1))
    tree-fits (ungathered sub) h = (tt, tree-fits sub h)

    branches-fit : (branches : WholeBranches) → BranchesFit users names branches → AllByRecursion NodeFits (branches_nodes branches)
    branches-fit no_branch h = tt
    branches-fit (branch clause t branches) h = (tt, all-both NodeFits (tree_nodes t) (branches_nodes branches) (tree-fits t h.0) (branches-fit branches h.1))

  -- other variables change nothing
  node-under : (by : ℕ → Tree) → MapsNamed names by → (node : Node) → NodeFits node → NodeFits (node_under by node)
  node-under by maps (Use clause count atom) h = atom-under users names by maps atom h
  node-under by maps (Compute atom) h = atom-under users names by maps atom h
  node-under by maps (Absent atom) h = atom-under users names by maps atom h
  node-under by maps (Gather fold result value atom) h = (atom-under users names by maps atom h.0, replaced-named names by maps result h.1, replaced-named names by maps value h.2)
  node-under by maps (Split count) h = tt
  node-under by maps (Branch clause) h = tt
  node-under by maps Computed h = tt
  node-under by maps Lacking h = tt
  node-under by maps Present h = tt
  node-under by maps Gathered h = tt
  node-under by maps Ungathered h = tt
  node-under by maps Success h = tt
  node-under by maps Dead h = tt

  nodes-under : (by : ℕ → Tree) → MapsNamed names by → (nodes : List Node) → AllByRecursion NodeFits nodes → AllByRecursion NodeFits (map (node_under by) nodes)
  nodes-under by maps [] h = tt
  nodes-under by maps (node ∷ nodes) h = (node-under by maps node h.0, nodes-under by maps nodes h.1)

  scoped-fits : (count number : ℕ) (scopes : List ℕ) (nodes : List Node) → AllByRecursion NodeFits nodes → AllByRecursion NodeFits (scoped count number scopes nodes)
  scoped-fits count number [] [] h = tt
  scoped-fits count number (scope ∷ scopes) [] h = tt
  scoped-fits count number [] (node ∷ nodes) h = (h.0, scoped-fits count (suc number) [] nodes h.1)
  scoped-fits count number (scope ∷ scopes) (node ∷ nodes) h =
      (node-under (told_apart count scope) (λ v. tt) node h.0, scoped-fits count (suc number) (times (parts_of node) (scope_below number scope node) scopes) nodes h.1)

  -- ---- what is in range, with variables whose numbers have 32 bits, can be said

  term-said : (tree : Tree) → IsNamed names tree → AllByRecursion (λ v. v < 2 ^ 32) (occurrences tree) → IsTermToSay names tree
  term-said (constant n) h low = h
  term-said (numeral z) h low = h
  term-said (date d) h low = h
  term-said (variable v) h low = low.0
  term-said nil h low = tt
  term-said (cell head tail) h low = (
    term-said head h.0 (all-left (λ v. v < 2 ^ 32) (occurrences head) (occurrences tail) low),
    term-said tail h.1 (all-right (λ v. v < 2 ^ 32) (occurrences head) (occurrences tail) low),
  )

  terms-said : (trees : List Tree) → AreNamed names trees → HasVariablesBelow (2 ^ 32) trees → AreTermsToSay names trees
  terms-said [] h low = tt
  terms-said (tree ∷ trees) h low = (
    term-said tree h.0 (all-left (λ v. v < 2 ^ 32) (occurrences tree) (all_occurrences trees) low),
    terms-said trees h.1 (all-right (λ v. v < 2 ^ 32) (occurrences tree) (all_occurrences trees) low),
  )

  -- the nodes of a leaf's derivation
  pub leaf-nodes : (literals : List Literal) (leaf : Leaf) → LeafFits users names literals leaf → AllByRecursion NodeFits (certificate_of leaf).nodes
  leaf-nodes literals leaf h =
      let nodes : List Node = proofs_nodes (packed leaf.proofs) in
      let own : AllByRecursion NodeFits nodes = proofs-fit (packed leaf.proofs) (packed-fits users names leaf.proofs h.proofs) in
      let apart : List Node = scoped (length nodes) 1 (times (length leaf.proofs) 0 []) nodes in
      nodes-under (numbered (terms_under (told_apart (length nodes) 0) leaf.terms ++ nodes_terms apart)) (λ v. tt) apart (scoped-fits (length nodes) 1 (times (length leaf.proofs) 0 []) nodes own)

  module _ (declared : AreDeclared users) (distinct : HasNoRepeats names) where
    values-back : (trees : List Tree) → AreNamed names trees → HasVariablesBelow (2 ^ 32) trees → AllByRecursion (TermReadsBack users names) trees
    values-back [] h low = tt
    values-back (tree ∷ trees) h low = (
      term-back users names tree distinct (term-said tree h.0 (all-left (λ v. v < 2 ^ 32) (occurrences tree) (all_occurrences trees) low)),
      values-back trees h.1 (all-right (λ v. v < 2 ^ 32) (occurrences tree) (all_occurrences trees) low),
    )

    sentence-back : (atom : Atom) → AtomFits users names atom → HasVariablesBelow (2 ^ 32) atom.args → SentenceReadsBack users names atom
    sentence-back atom h below = λ low. atom-back users names atom.pred atom.args (record {
      declared = declared;
      low = low;
      used = (h.0 low).0;
      terms = (h.0 low).1;
      distinct = distinct;
      sayable = terms-said atom.args h.1 below;
    })

    node-back : (node : Node) → NodeFits node → HasVariablesBelow (2 ^ 32) (node_terms node) → NodeReadsBack users names node
    node-back (Use clause count atom) h low = sentence-back atom h low
    node-back (Compute atom) h low = sentence-back atom h low
    node-back (Absent atom) h low = sentence-back atom h low
    node-back (Gather fold result value atom) h low = term-back users names result distinct (term-said result h.1 (all-left (λ v. v < 2 ^ 32) (occurrences result) (all_occurrences (value ∷ atom.args)) low))
    node-back (Split count) h low = tt
    node-back (Branch clause) h low = tt
    node-back Computed h low = tt
    node-back Lacking h low = tt
    node-back Present h low = tt
    node-back Gathered h low = tt
    node-back Ungathered h low = tt
    node-back Success h low = tt
    node-back Dead h low = tt

    nodes-back : (nodes : List Node) → AllByRecursion NodeFits nodes → HasVariablesBelow (2 ^ 32) (nodes_terms nodes) → AllByRecursion (NodeReadsBack users names) nodes
    nodes-back [] h low = tt
    nodes-back (node ∷ nodes) h low =
        (node-back node h.0 (front-below (2 ^ 32) (node_terms node) (nodes_terms nodes) low), nodes-back nodes h.1 (back-below (2 ^ 32) (node_terms node) (nodes_terms nodes) low))

    answer-back : (literals : List Literal) (leaf : Leaf) → LeafFits users names literals leaf → HasVariablesBelow (2 ^ 32) (canonical_of leaf.terms) → HasVariablesBelow (2 ^ 32) (nodes_terms (certificate_of leaf).nodes) → AnswerReadsBack users names leaf
    answer-back literals leaf h in_values in_nodes = record {
      values = values-back (canonical_of leaf.terms) (under-named names (λ v. variable (place_in (all_variables leaf.terms) v)) (λ v. tt) leaf.terms h.terms) in_values;
      nodes = nodes-back (certificate_of leaf).nodes (leaf-nodes literals leaf h) in_nodes;
    }

    answers-so : (literals : List Literal) (budget : ℕ) → budget ≤ 1000000 → (ls : List Leaf) → AllByRecursion (LeafFits users names literals) ls → AllByRecursion (IsFew budget) ls → AllByRecursion (AnswerReadsBack users names) ls
    answers-so literals budget low [] all few = tt
    answers-so literals budget low (leaf ∷ ls) all few = (
      answer-back literals leaf all.0 (more-below (65 + 64 * budget) (2 ^ 32) (omega (arith, low)) (canonical_of leaf.terms) few.0.0)
          (more-below (65 + 64 * budget) (2 ^ 32) (omega (arith, low)) (nodes_terms (certificate_of leaf).nodes) few.0.2),
      answers-so literals budget low ls all.1 few.1,
    )

-- the answers of a program that can be said read back
pub answers-back : AnswersReadBack
answers-back users names program budget declared valid is low =
    answers-so users names declared is.distinct program.query budget low (answers_of program budget) (answers-fit users names program budget valid.count low is) (few-variables program budget valid)

-- the nodes of their derivations have terms whose constants have names, and whose numbers and dates are in range
pub answers-said : (users : List Template) (names : List (List ℕ)) (program : Program) (budget : ℕ) → length program.clauses < 2 ^ 31 → budget ≤ 1000000 → IsProgramToSay users names program
    → AllByRecursion (λ leaf. AllByRecursion (NodeFits users names) (certificate_of leaf).nodes) (answers_of program budget)
answers-said users names program budget short low is =
    all-weaken (LeafFits users names program.query) (λ leaf. AllByRecursion (NodeFits users names) (certificate_of leaf).nodes) (λ leaf h. leaf-nodes users names program.query leaf h) (answers_of program budget)
    (answers-fit users names program budget short low is)
