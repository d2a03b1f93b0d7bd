-- The laws of the search and of the replay, for the functions whose contracts they are.
use Rattle.std.specs.Prelude.{◌≡◌, ℕ, ◌+◌, ◌*◌, List, [], ◌∷◌, ◌++◌, length, map, slice_get, Some}
use Rattle.std.specs.List.{AllByRecursion}
use Rattle.le_terms.specs.Tree.{Tree}
use Rattle.le_terms.specs.Variables.{canonical_of}
use Rattle.le_terms.specs.Program.{HasVariablesBelow, IsProgram}
use Rattle.le_terms.specs.declared.program.Literal.{Literal}
use Rattle.le_terms.specs.declared.program.Program.{Program}
use Rattle.le_proofs.specs.declared.node.Node.{Node}
use Rattle.le_proofs.specs.declared.next.Next.{Next}
use Rattle.le_proofs.specs.declared.next.Next.TheVariants.{Answer, Done, Floundered, OutOfRange, Spent}
use Rattle.le_proofs.specs.Goals.{Goal, selected, put_in_place, terms_under, asked_terms}
use Rattle.le_proofs.specs.Proofs.{Proof, WholeTree, packed}
use Rattle.le_proofs.specs.Derivations.{bare, proofs_nodes, nodes_terms, certificate, certificate_of}
use Rattle.le_proofs.specs.Lloyd.{IsRefutation, WholeBelow, goal_variables, Admits, Whole}
use Rattle.le_proofs.specs.Replay.{accepted, verdict_of}
use Rattle.le_proofs.specs.Search.{grow_at, tree, search_of, answers_of, end_of}

-- the replay accepts a derivation with values exactly where it is admitted with them
abbrev pub AcceptsExactly : Type 0
AcceptsExactly =
    (program : Program) (nodes : List Node) (values : List Tree) → IsProgram program
    → (Admits program nodes values → verdict_of program nodes ≡ accepted values) × (verdict_of program nodes ≡ accepted values → Admits program nodes values)

-- A derivation is admitted with one list of values, whichever variants and most general unifiers its refutation takes.
abbrev pub AdmittedOnce : Type 0
AdmittedOnce = (program : Program) (nodes : List Node) (values others : List Tree) → IsProgram program → Admits program nodes values → Admits program nodes others → values ≡ others

-- Refutations of a program's query that use the same clauses in the same order, so that their nodes are the same but for their terms, have the same values and nodes.
abbrev pub RefutationsAgree : Type 0
RefutationsAgree =
    (program : Program) (rank other_rank : ℕ) (proofs others : List Proof) (by other_by : ℕ → Tree) → IsProgram program
    → IsRefutation program (WholeBelow rank program) (goal_variables program.query (asked_terms program.asked)) program.query proofs by
    → IsRefutation program (WholeBelow other_rank program) (goal_variables program.query (asked_terms program.asked)) program.query others other_by
    → map bare (proofs_nodes (packed proofs)) ≡ map bare (proofs_nodes (packed others))
    → certificate (terms_under by (asked_terms program.asked)) (length proofs) (proofs_nodes (packed proofs)) ≡ certificate (terms_under other_by (asked_terms program.asked)) (length others) (proofs_nodes (packed others))

-- All whole trees of a program's query have the same leaves in the same order, their variables numbered from 1.
abbrev pub TreesAgree : Type 0
TreesAgree =
    (program : Program) (rank other_rank : ℕ) (t other : WholeTree) (leaves others : List (List Tree)) → IsProgram program
    → Whole rank program program.query (asked_terms program.asked) t leaves
    → Whole other_rank program program.query (asked_terms program.asked) other others
    → map canonical_of leaves ≡ map canonical_of others

-- Where a program's query has a whole tree, each derivation that is admitted has the values of one of its leaves: where there is no leaf, none is admitted.
abbrev pub AdmittedAtLeaf : Type 0
AdmittedAtLeaf =
    (program : Program) (rank : ℕ) (t : WholeTree) (leaves : List (List Tree)) (nodes : List Node) (values : List Tree) → IsProgram program
    → Whole rank program program.query (asked_terms program.asked) t leaves → Admits program nodes values
    → (place : ℕ) × (slice_get (map canonical_of leaves) place ≡ Some values)

-- Where a search is done, each derivation that is admitted has the values of one of its answers.
abbrev pub DoneHasAll : Type 0
DoneHasAll =
    (program : Program) (budget : ℕ) (nodes : List Node) (values : List Tree) → IsProgram program → end_of program budget ≡ Done → Admits program nodes values
    → (place : ℕ) × (slice_get (map (λ leaf. canonical_of leaf.terms) (answers_of program budget)) place ≡ Some values)

-- the derivation of each answer of a search is accepted with the answer's values
abbrev pub AnswersAccepted : Type 0
AnswersAccepted =
    (program : Program) (budget : ℕ) → IsProgram program
    → AllByRecursion (λ leaf. verdict_of program (certificate_of leaf).nodes ≡ accepted (certificate_of leaf).values) (answers_of program budget)

-- The tree of a goal is that of its selected literal, with the trees of what becomes of the goal below it: the fuel of its definition is always enough.
abbrev pub TreeUnfolds : Type 0
TreeUnfolds = (program : Program) (goal : Goal) (left : ℕ) → tree program goal left ≡ grow_at (tree program) program goal goal.literals left

-- In version 1 the selected literal is the leftmost, and what comes in its place stands before the rest.
abbrev pub SelectsLeftmost : Type 0
SelectsLeftmost =
    (literal : Literal) (literals new : List Literal)
    → (selected 1 (literal ∷ literals) ≡ Some (record { before = []; chosen = literal; behind = literals }))
    × (put_in_place (record { before = []; chosen = literal; behind = literals }) new ≡ new ++ literals)

-- Each answer of a search is admitted with the derivation of its leaf and with the leaf's terms, their variables numbered from 1.
abbrev pub AnswersAdmitted : Type 0
AnswersAdmitted =
    (program : Program) (budget : ℕ) → IsProgram program
    → AllByRecursion (λ leaf. Admits program (certificate_of leaf).nodes (canonical_of leaf.terms)) (answers_of program budget)

-- Where a search is done, the query has a whole tree of some rank, and the answers are its leaves.
abbrev pub DoneIsWhole : Type 0
DoneIsWhole =
    (program : Program) (budget : ℕ) → IsProgram program → end_of program budget ≡ Done
    → (rank : ℕ) × (t : WholeTree) × Whole rank program program.query (asked_terms program.asked) t (map (λ leaf. leaf.terms) (answers_of program budget))

-- The variables of an answer's values, and those of its values and the nodes of its derivation together, have numbers of at most 64 for each selection that the search may make, and 64 for the query.
abbrev pub FewVariables : Type 0
FewVariables =
    (program : Program) (budget : ℕ) → IsProgram program
    → AllByRecursion (λ leaf. HasVariablesBelow (65 + 64 * budget) (canonical_of leaf.terms) × HasVariablesBelow (65 + 64 * budget) (certificate_of leaf).values × HasVariablesBelow (65 + 64 * budget) (nodes_terms (certificate_of leaf).nodes)) (answers_of program budget)

-- a visit may end so with so many selections left: no answer is an end, and the budget is spent only where none is left
abbrev pub IsEnd : Next → ℕ → Type 0
IsEnd Answer left = ⊥
IsEnd Done left = Unit {0}
IsEnd (Floundered line) left = Unit {0}
IsEnd (OutOfRange line) left = Unit {0}
IsEnd Spent left = left ≡ 0

-- A search ends with its budget spent only where no selection is left, and never with an answer.
abbrev pub SearchesEnd : Type 0
SearchesEnd = (program : Program) (budget : ℕ) → IsEnd (end_of program budget) (search_of program budget).left
