-- Steps of a path as they are kept, and the nodes of the proofs that they give.
use Rattle.std.specs.Prelude.{◌≡◌, ℕ, List, [], ◌∷◌, length}
use Rattle.le_subst.specs.Unifiers.{Bindings, value_at}
use Rattle.le_proofs.specs.declared.node.Node.{Node}
use Rattle.le_proofs.specs.declared.node.Node.TheVariants.{Use, Compute, Absent, Gather, Split, Branch, Computed, Lacking, Present, Gathered, Ungathered, Success, Dead}
use Rattle.le_proofs.specs.Proofs.{Step, Reason, clause_used, value_computed, failure_shown, cases_gathered, Leaf, packed}
use Rattle.le_proofs.specs.Derivations.{tree_nodes, proofs_nodes}
use Rattle.le_proofs.specs.UnderWay.{leaf_along}
use Rattle.le_derivations.specs.declared.path.PathStep.{PathStep}

-- how many literals of a clause's body a node has proofs of below it
abbrev pub count_of : Node → ℕ
count_of (Use clause count atom) = count
count_of (Compute atom) = 0
count_of (Absent atom) = 0
count_of (Gather fold result value atom) = 0
count_of (Split count) = 0
count_of (Branch clause) = 0
count_of Computed = 0
count_of Lacking = 0
count_of Present = 0
count_of Gathered = 0
count_of Ungathered = 0
count_of Success = 0
count_of Dead = 0

-- a node with another such count
abbrev pub with_count : ℕ → Node → Node
with_count n (Use clause count atom) = Use clause n atom
with_count n (Compute atom) = Compute atom
with_count n (Absent atom) = Absent atom
with_count n (Gather fold result value atom) = Gather fold result value atom
with_count n (Split count) = Split count
with_count n (Branch clause) = Branch clause
with_count n Computed = Computed
with_count n Lacking = Lacking
with_count n Present = Present
with_count n Gathered = Gathered
with_count n Ungathered = Ungathered
with_count n Success = Success
with_count n Dead = Dead

-- a node, and the nodes below it, show what a step is made by
abbrev pub Shows : Reason → Node → List Node → Type 0
Shows (clause_used clause atom) node below = (node ≡ Use clause (count_of node) atom) × (below ≡ [])
Shows (value_computed atom) node below = (node ≡ Compute atom) × (below ≡ [])
Shows (failure_shown atom tree) node below = (node ≡ Absent atom) × (below ≡ tree_nodes tree)
Shows (cases_gathered fold result value atom tree) node below = (node ≡ Gather fold result value atom) × (below ≡ tree_nodes tree)

-- a step as it is kept is this step
pub record IsStep (kept : PathStep) (step : Step) : Type 0 where
  pub place_ : step.place ≡ kept.place
  pub count_ : step.count ≡ count_of kept.node
  pub unifier_ : step.unifier ≡ kept.unifier
  pub reason_ : Shows step.reason kept.node kept.below

-- steps as they are kept are these steps
abbrev pub AreSteps : List PathStep → List Step → Type 0
AreSteps [] [] = Unit {0}
AreSteps [] (step ∷ steps) = ⊥
AreSteps (kept ∷ keeps) [] = ⊥
AreSteps (kept ∷ keeps) (step ∷ steps) = IsStep kept step × AreSteps keeps steps

-- nodes, a number of proofs and a substitution are those of a leaf seen from a goal above it
pub record AreProofs (nodes : List Node) (count : ℕ) (bindings : Bindings) (leaf : Leaf) : Type 0 where
  pub nodes_ : nodes ≡ proofs_nodes (packed leaf.proofs)
  pub count_ : count ≡ length leaf.proofs
  pub by_ : (v : ℕ) → value_at bindings v ≡ leaf.by v

-- the steps of a path that are left, with the proofs of a leaf so far, lead to a leaf seen from the path's beginning
pub record IsPartWay (keeps : List PathStep) (nodes : List Node) (count : ℕ) (bindings : Bindings) (whole : Leaf) : Type 0 where
  pub steps : List Step
  pub leaf : Leaf
  pub are : AreSteps keeps steps
  pub proofs_ : AreProofs nodes count bindings leaf
  pub along : leaf_along steps leaf ≡ whole
