-- A path of two steps, worked out.
use Rattle.std.proofs.Common.{◌≡◌, ℕ, List, [], ◌∷◌, map, reverse, pos, refl, arith}
use Rattle.le_terms.specs.Tree.{Tree, variable, number}
use Rattle.le_terms.specs.declared.program.Atom.{Atom}
use Rattle.le_terms.specs.declared.program.Form.TheVariants.{Pos}
use Rattle.le_terms.specs.declared.program.Literal.{Literal}
use Rattle.le_proofs.specs.declared.node.Node.TheVariants.{Use}
use Rattle.le_proofs.specs.Proofs.{Step, clause_used}
use Rattle.le_proofs.specs.SearchTree.{empty_leaf}
use Rattle.le_proofs.specs.UnderWay.{leaf_along}
use Rattle.le_proofs.specs.Derivations.{certificate_of}
use Rattle.le_goals.specs.Shown.{Snapshot}
use Rattle.le_paths.specs.declared.step.CellStep.{CellStep}
use Rattle.le_paths.specs.Paths.{node_at, LeadHere}

abbrev atom : ℕ → Tree → Atom
atom pred tree = record { pred = pred; args = tree ∷ [] }

abbrev literal : ℕ → Tree → Literal
literal pred tree = record { line = 1; form = Pos (atom pred tree) }

abbrev five : Tree
five = number (pos 5)

-- the goal 20(X), its resolvent 21(X), and the empty goal, in cells where X is 5 now
abbrev goals_now : Snapshot
goals_now = record {
  next = 2;
  goals = record { next = 1; literals = literal 20 five ∷ []; terms = five ∷ [] } ∷ record { next = 2; literals = literal 21 five ∷ []; terms = five ∷ [] } ∷ record { next = 2; literals = []; terms = five ∷ [] } ∷ [];
}

-- the first step by a clause 1, whose head is 20(Y) and whose body is 21(Y), and the second by a clause 2, which is the fact 21(5)
abbrev path : List CellStep
path = record { goal = 0; place = 0; clause = 1; count = 1; below = [] } ∷ record { goal = 1; place = 0; clause = 2; count = 0; below = [] } ∷ []

abbrev steps : List Step
steps =
    record { place = 0; count = 0; unifier = (0, five) ∷ []; reason = clause_used 2 (atom 21 (variable 0)) }
    ∷ record { place = 0; count = 1; unifier = (1, variable 0) ∷ []; reason = clause_used 1 (atom 20 (variable 0)) } ∷ []

-- these are those steps
leads : LeadHere goals_now (reverse path) steps
leads = (
  record { literal = literal 21 (variable 0); inside = omega arith; now_ = refl; place_ = refl; count_ = refl; reason_ = (refl, refl) },
  (record { literal = literal 20 (variable 0); inside = omega arith; now_ = refl; place_ = refl; count_ = refl; reason_ = (refl, refl) }, tt),
)

-- the nodes that the cells show, and those of the derivation
nodes : map (node_at goals_now) path ≡ Use 1 1 (atom 20 five) ∷ Use 2 0 (atom 21 five) ∷ []
nodes = refl

derivation : (certificate_of (leaf_along steps (empty_leaf (five ∷ []) 10))).nodes ≡ Use 1 1 (atom 20 five) ∷ Use 2 0 (atom 21 five) ∷ []
derivation = refl
