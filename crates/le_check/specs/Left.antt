-- What is left of a replay under way: what the whole replay comes to, of what the innermost part of it gives.
use Rattle.std.specs.Prelude.{◌≡◌, ℕ, suc, ◌+◌, ◌≤◌, ◌==◌, not, Bool, List, [], ◌∷◌, ◌++◌, length, map, drop, reverse, Some}
use Rattle.std.specs.List.{AllByRecursion}
use Rattle.le_gather.specs.Folds.{fold_of}
use Rattle.le_terms.specs.Tree.{Tree}
use Rattle.le_terms.specs.declared.program.Atom.{Atom}
use Rattle.le_terms.specs.declared.program.Clause.{Clause}
use Rattle.le_terms.specs.declared.program.Literal.{Literal}
use Rattle.le_terms.specs.declared.program.Program.{Program}
use Rattle.le_subst.specs.Unifiers.{Bindings}
use Rattle.le_proofs.specs.declared.node.Node.{Node}
use Rattle.le_proofs.specs.Goals.{Goal, Picked, Child, children, head_solution, resolvent_by, rest_by}
use Rattle.le_proofs.specs.Proofs.{WholeTree, Step, Reason, Leaf, failure_shown, cases_gathered}
use Rattle.le_proofs.specs.SearchTree.{empty_leaf, first_proof}
use Rattle.le_proofs.specs.Search.{Outcome, goes_on, fails, ends, by_fold}
use Rattle.le_proofs.specs.UnderWay.{leaf_along}
use Rattle.le_proofs.specs.Derivations.{branch_count, tree_nodes, branches_nodes, proof_nodes}
use Rattle.le_proofs.specs.Lloyd.{values_at}
use Rattle.le_proofs.specs.Replay.{Replayed, Proven, Walked, WalkedEach, gives, faulty, and_on, proofs_within, tree_within, branches_at, branch_on, branch_fault, split_of, unless, clause_at}
use Rattle.le_derivations.specs.Paths.{AreSteps}
use Rattle.le_derivations.specs.declared.path.PathStep.{PathStep}
use Rattle.le_check.specs.Goals.{goal_of, placed}
use Rattle.le_check.specs.Parts.{nodes_from}
use Rattle.le_check.specs.declared.levels.Frame.{Frame}
use Rattle.le_check.specs.declared.levels.Frame.TheVariants.{Absent, Gather, Split, Lacking, Present, Gathered, Ungathered}
use Rattle.le_check.specs.declared.levels.Proof.{Proof}
use Rattle.le_check.specs.declared.levels.Walk.{Walk}
use Rattle.le_check.specs.declared.levels.Grown.{Grown}
use Rattle.le_check.specs.declared.levels.SplitFrame.{SplitFrame}
use Rattle.le_check.specs.declared.levels.Turn.{Turn}
use Rattle.le_check.specs.declared.levels.Turn.TheVariants.{Prove, Walk as WalkOn, Through, Walked as WalkedOn, Stopped}
use Rattle.le_check.specs.declared.levels.Opening.{Opening}
use Rattle.le_check.specs.declared.levels.Opening.TheVariants.{Goes, Opens}

-- what the whole replay comes to, where a proof gives this after such steps, and after the numbers so far
abbrev pub ProofOn : (Leaf → List ℕ → Replayed Proven → Type 0) → List Step → List ℕ → Replayed Proven → Replayed Proven → Type 0
ProofOn Done steps order proof whole = (more : Proven → Replayed Proven) × ((proven : Proven) → Done (leaf_along steps proven.leaf) (order ++ proven.order) (more proven)) × (whole ≡ and_on proof more)

-- and where a tree gives this after the nodes, the values and the numbers so far
abbrev pub TreeOn : (List Node → List Tree → List ℕ → List Node → Replayed Proven → Type 0) → List Node → List Tree → List ℕ → Replayed Walked → Replayed Proven → Type 0
TreeOn Done log found order tree whole =
    (more : Walked → Replayed Proven) × ((walked : Walked) → Done (log ++ tree_nodes walked.tree) (found ++ values_at walked.found) (order ++ walked.order) walked.rest (more walked)) × (whole ≡ and_on tree more)

-- and where so many branches give this
abbrev pub BranchesOn : (List Node → List Tree → List ℕ → List Node → Replayed Proven → Type 0) → List Node → List Tree → List ℕ → ℕ → Replayed WalkedEach → Replayed Proven → Type 0
BranchesOn Done log found order count branches whole =
    (more : WalkedEach → Replayed Proven)
    × ((walked : WalkedEach) → branch_count walked.branches ≡ count → Done (log ++ branches_nodes walked.branches) (found ++ values_at walked.found) (order ++ walked.order) walked.rest (more walked))
    × (whole ≡ and_on branches more)

-- the replay goes on under an outcome's unifier, or stops at this node
abbrev pub GoesOnBy : Outcome → ℕ → (Bindings → Type 0) → Replayed Proven → Type 0
GoesOnBy (goes_on unifier) number On whole = On unifier
GoesOnBy fails number On whole = whole ≡ faulty number 7
GoesOnBy (ends ending) number On whole = whole ≡ faulty number 7

-- the replay goes on where the outcome is a failure, or stops at this node
abbrev pub FailsBy : Outcome → ℕ → Type 0 → Replayed Proven → Type 0
FailsBy (goes_on unifier) number On whole = whole ≡ faulty number 7
FailsBy fails number On whole = On
FailsBy (ends ending) number On whole = whole ≡ faulty number 7

-- a step past the literal at a place
abbrev pub past : ℕ → Bindings → Reason → Step
past place unifier reason = record { place = place; count = 0; unifier = unifier; reason = reason }

-- a child is the resolvent by the clause of its number
abbrev pub IsChild : Program → Goal → ℕ → Atom → Child → Type 0
IsChild program goal place atom child =
    (literal : Literal) (clause : Clause) (unifier : Bindings) → clause_at program child.clause ≡ Some clause → head_solution goal.next clause atom ≡ Some unifier
    → child.goal ≡ resolvent_by goal (placed goal.literals place literal) clause unifier

module _ (program : Program) (nodes : List Node) where
  abbrev pub proof_below : ℕ → Goal → List (List Node) → Replayed Proven
  proof_below fuel goal places = proofs_within program (length nodes) fuel goal places

  abbrev pub tree_below : ℕ → Bool → Goal → List Node → Replayed Walked
  tree_below fuel failed goal rest = tree_within program (length nodes) fuel failed goal rest

  abbrev pub branches_below : ℕ → Bool → Goal → Atom → List Child → List Node → Replayed WalkedEach
  branches_below fuel failed goal atom others rest = branches_at program (length nodes) (proofs_within program (length nodes) fuel) (tree_within program (length nodes) fuel) failed goal atom others rest

  -- the branches of an atom that should be so many
  abbrev pub split_below : ℕ → Bool → Goal → Picked Literal → ℕ → List Node → Atom → ℕ → Replayed Walked
  split_below fuel failed goal picked number below atom count =
      let all : List Child = children goal picked atom 1 program.clauses in
      unless (not (count == length all)) number 6 (split_of program (length nodes) (proofs_within program (length nodes) fuel) (tree_within program (length nodes) fuel) (branches_below fuel failed goal atom all below))

  -- the rest of a proof after a step gives this
  abbrev pub ProofOnward : (Leaf → List ℕ → Replayed Proven → Type 0) → List PathStep → Step → List ℕ → Replayed Proven → Replayed Proven → Type 0
  ProofOnward Done path step order proof whole = (steps : List Step) × AreSteps (reverse path) steps × ProofOn Done (step ∷ steps) order proof whole

  -- and past the literal at a place, by what becomes of it
  abbrev pub ProofPast : (Leaf → List ℕ → Replayed Proven → Type 0) → Proof → ℕ → ℕ → Reason → List ℕ → Outcome → Replayed Proven → Type 0
  ProofPast Done proof place number reason order outcome whole =
      (literal : Literal)
      × GoesOnBy outcome number
      (λ unifier. ProofOnward Done proof.path.items (past place unifier reason) order
      (proof_below proof.fuel (rest_by (goal_of proof.goal) (placed proof.goal.literals.items place literal) unifier) (nodes_from nodes proof.places.items)) whole) whole

  -- the same of a tree
  abbrev pub TreePast : (List Node → List Tree → List ℕ → List Node → Replayed Proven → Type 0) → Walk → ℕ → ℕ → List Node → List Tree → List ℕ → List Node → Outcome → Replayed Proven → Type 0
  TreePast Done walk place number log found order rest outcome whole =
      (literal : Literal)
      × GoesOnBy outcome number
      (λ unifier. TreeOn Done log found order (tree_below walk.fuel walk.failed (rest_by (goal_of walk.goal) (placed walk.goal.literals.items place literal) unifier) rest) whole) whole

  abbrev mutual
    -- what the whole replay comes to once the innermost tree is done, with these nodes, values and numbers, and with these nodes after it
    pub TreeDone : List Frame → List Node → List Tree → List ℕ → List Node → Replayed Proven → Type 0
    TreeDone [] log found order rest whole = ⊥
    TreeDone (Absent f ∷ frames) log found order rest whole =
        (tree : WholeTree) × (tree_nodes tree ≡ log)
        × ProofOnward (ProofDone frames) f.proof.path.items (past f.place [] (failure_shown f.atom tree)) order (proof_below f.proof.fuel (goal_of f.proof.goal) (nodes_from nodes f.proof.places.items)) whole
    TreeDone (Gather f ∷ frames) log found order rest whole =
        (tree : WholeTree) × (tree_nodes tree ≡ log) × (line : ℕ)
        × ProofPast (ProofDone frames) f.proof f.place f.number (cases_gathered f.fold f.result f.value f.atom tree) order (by_fold line f.result (fold_of f.fold found)) whole
    TreeDone (Split f ∷ frames) log found order rest whole =
        (others : List Child) × (map (λ (child : Child). child.clause) others ≡ reverse f.left.items) × AllByRecursion (IsChild program (goal_of f.walk.goal) f.place f.atom) others
        × BranchesOn (TreeDone frames) log found order (length others) (branches_below f.walk.fuel f.walk.failed (goal_of f.walk.goal) f.atom others rest) whole
    TreeDone (Lacking f ∷ frames) log found order rest whole = TreeOn (TreeDone frames) log f.found.items order (tree_below f.walk.fuel f.walk.failed (goal_of f.walk.goal) rest) whole
    TreeDone (Gathered f ∷ frames) log found order rest whole =
        (line : ℕ) × TreePast (TreeDone frames) f.walk f.place f.number log f.found.items order rest (by_fold line f.result (fold_of f.fold found)) whole
    TreeDone (Ungathered f ∷ frames) log found order rest whole =
        (line : ℕ) × FailsBy (by_fold line f.result (fold_of f.fold found)) f.number (TreeDone frames log f.found.items order rest whole) whole
    TreeDone (Present f ∷ frames) log found order rest whole = ⊥

    -- and once the innermost proof came through, with this leaf and these numbers
    pub ProofDone : List Frame → Leaf → List ℕ → Replayed Proven → Type 0
    ProofDone [] leaf order whole = whole ≡ gives (record { leaf = leaf; order = order })
    ProofDone (Absent f ∷ frames) leaf order whole = ⊥
    ProofDone (Gather f ∷ frames) leaf order whole = ⊥
    ProofDone (Split f ∷ frames) leaf order whole = ⊥
    ProofDone (Lacking f ∷ frames) leaf order whole = ⊥
    ProofDone (Present f ∷ frames) leaf order whole = TreeDone frames (f.grown.nodes.items ++ proof_nodes (first_proof leaf)) f.grown.found.items order (drop f.after nodes) whole
    ProofDone (Gathered f ∷ frames) leaf order whole = ⊥
    ProofDone (Ungathered f ∷ frames) leaf order whole = ⊥

  -- a proof under way gives this
  abbrev pub ProofGives : List Frame → List PathStep → List ℕ → Replayed Proven → Replayed Proven → Type 0
  ProofGives frames path order proof whole = (steps : List Step) × AreSteps (reverse path) steps × ProofOn (ProofDone frames) steps order proof whole

  -- a tree under way gives this
  abbrev pub TreeGives : List Frame → Grown → List ℕ → Replayed Walked → Replayed Proven → Type 0
  TreeGives frames grown order tree whole = TreeOn (TreeDone frames) grown.nodes.items grown.found.items order tree whole

  -- what the whole replay comes to, of what is done next
  abbrev pub Means : List Frame → List ℕ → Turn → Replayed Proven → Type 0
  Means frames order (Prove proof) whole = ProofGives frames proof.path.items order (proof_below proof.fuel (goal_of proof.goal) (nodes_from nodes proof.places.items)) whole
  Means frames order (WalkOn walk at grown) whole = TreeOn (TreeDone frames) grown.nodes.items grown.found.items order (tree_below walk.fuel walk.failed (goal_of walk.goal) (drop at nodes)) whole
  Means frames order (Through path terms) whole = (steps : List Step) × AreSteps (reverse path.items) steps × ProofDone frames (leaf_along steps (empty_leaf terms.items 0)) order whole
  Means frames order (WalkedOn at grown) whole = TreeDone frames grown.nodes.items grown.found.items order (drop at nodes) whole
  Means frames order (Stopped fault) whole = whole ≡ faulty fault.node fault.why

  -- and of what is done next, where something may be left open before
  abbrev pub Opened : List Frame → List ℕ → Opening → Replayed Proven → Type 0
  Opened frames order (Goes turn) whole = Means frames order turn whole
  Opened frames order (Opens frame turn) whole = Means (frame ∷ frames) order turn whole

-- what the whole replay comes to, of what is left of it once clauses were tried, and how many steps were made and are still allowed
abbrev pub Left : ℕ → ℕ → (Replayed Proven → Type 0) → Replayed Proven → Type 0
Left before after Meant whole = (tried : ℕ) × (rest : Replayed Proven) × (whole.tried ≡ tried + rest.tried) × (whole.answer ≡ rest.answer) × (after ≤ before + tried) × Meant rest

-- what the next branch is, where this is its node
pub record NextBranch (program : Program) (nodes : List Node) (frames : List Frame) (log : List Node) (found : List Tree) (order : List ℕ) (whole : Replayed Proven) (f : SplitFrame) (number : ℕ) (below : List Node) (clause due : ℕ) (rest : List ℕ) : Type 0 where
  pub others : List Child
  pub child : Child
  pub due_ : child.clause ≡ due
  pub left_ : map (λ (other : Child). other.clause) others ≡ rest
  pub child_ : IsChild program (goal_of f.walk.goal) f.place f.atom child
  pub all_ : AllByRecursion (IsChild program (goal_of f.walk.goal) f.place f.atom) others
  pub on_ : BranchesOn (TreeDone program nodes frames) log found order (suc (length others))
      (branch_on program (length nodes) (proofs_within program (length nodes) f.walk.fuel) (tree_within program (length nodes) f.walk.fuel) f.walk.failed clause child number below
      (branches_below program nodes f.walk.fuel f.walk.failed (goal_of f.walk.goal) f.atom others)
      (branch_fault program (length nodes) (proofs_within program (length nodes) f.walk.fuel) (tree_within program (length nodes) f.walk.fuel) (goal_of f.walk.goal) f.atom clause child (clause_at program clause))) whole
