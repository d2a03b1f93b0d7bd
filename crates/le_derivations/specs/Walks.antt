-- What the walk of a search tree finds: its success leaves, its nodes, how it ends, and the selections left; and what is left of a walk under way.
use Rattle.std.specs.Prelude.{◌≡◌, ℕ, List, [], ◌∷◌, ◌++◌, map, Option, Some, None}
use Rattle.le_terms.specs.declared.program.Atom.{Atom}
use Rattle.le_terms.specs.declared.program.Program.{Program}
use Rattle.le_proofs.specs.declared.node.Node.{Node}
use Rattle.le_proofs.specs.declared.node.Node.TheVariants.{Split, Branch, Computed, Lacking, Present, Gathered, Ungathered, Success, Dead}
use Rattle.le_proofs.specs.declared.next.Next.{Next}
use Rattle.le_proofs.specs.declared.next.Next.TheVariants.{Answer, Done, Floundered, OutOfRange, Spent}
use Rattle.le_proofs.specs.Goals.{Goal, Child}
use Rattle.le_proofs.specs.Proofs.{Step, Leaf}
use Rattle.le_proofs.specs.SearchTree.{SearchTree, Branches, leaves, course_of, course_each, first_proof}
use Rattle.le_proofs.specs.SearchTree as search
use Rattle.le_proofs.specs.Derivations.{proof_nodes}
use Rattle.le_proofs.specs.Search.{grow_each, tree}
use Rattle.le_proofs.specs.UnderWay.{leaf_along}

abbrev mutual
  -- the nodes of a search tree as far as it is visited; where it is done, they are those of the whole tree
  pub visit_nodes : SearchTree → List Node
  visit_nodes (search.success terms left) = Success ∷ []
  visit_nodes (search.halted ending left) = Dead ∷ []
  visit_nodes (search.split atom count branches) = Split count ∷ visit_each branches
  visit_nodes (search.computed step tree) = Computed ∷ visit_nodes tree
  visit_nodes (search.dead left) = Dead ∷ []
  visit_nodes (search.lacking sub step tree) = Lacking ∷ (visit_nodes sub ++ visit_nodes tree)
  visit_nodes (search.present sub leaf) = Present ∷ proof_nodes (first_proof leaf)
  visit_nodes (search.trying sub) = Dead ∷ []
  visit_nodes (search.gathered sub step tree) = Gathered ∷ (visit_nodes sub ++ visit_nodes tree)
  visit_nodes (search.ungathered sub) = Ungathered ∷ visit_nodes sub
  visit_nodes (search.unfolded sub ending) = Dead ∷ []
  visit_nodes (search.gathering sub) = Dead ∷ []

  pub visit_each : Branches → List Node
  visit_each (search.no_branch left) = []
  visit_each (search.branch clause step tree branches) = Branch clause ∷ (visit_nodes tree ++ visit_each branches)
  visit_each (search.last_branch clause step tree) = Branch clause ∷ visit_nodes tree

-- what a walk finds, how it ends, and the selections left
pub record Walk : Type 0 where
  pub leaves : List Leaf
  pub nodes : List Node
  pub ending : Next
  pub left : ℕ

-- the walk of a search tree
abbrev pub walk_of : SearchTree → Walk
walk_of tree = record { leaves = leaves (course_of tree); nodes = visit_nodes tree; ending = (course_of tree).ending; left = (course_of tree).left }

-- the walk of branches, one after another
abbrev pub walk_each : Branches → Walk
walk_each branches = record { leaves = leaves (course_each branches); nodes = visit_each branches; ending = (course_each branches).ending; left = (course_each branches).left }

-- a walk found these leaves, and ends so with so many selections left
pub record EndsWith (walk : Walk) (found : List Leaf) (ending : Next) (left : ℕ) : Type 0 where
  pub leaves_ : walk.leaves ≡ found
  pub ending_ : walk.ending ≡ ending
  pub left_ : walk.left ≡ left

-- nothing is left to be walked
abbrev pub done : ℕ → Walk
done left = record { leaves = []; nodes = []; ending = Done; left = left }

-- some leaves and nodes, and then a walk
abbrev pub prefixed : List Leaf → List Node → Walk → Walk
prefixed found nodes walk = record { leaves = found ++ walk.leaves; nodes = nodes ++ walk.nodes; ending = walk.ending; left = walk.left }

-- a walk below the steps of a path, the last step first, seen from its beginning
abbrev pub along : List Step → Walk → Walk
along path walk = record { leaves = map (leaf_along path) walk.leaves; nodes = walk.nodes; ending = walk.ending; left = walk.left }

-- a walk that ends so, and then another one with the selections that it left; the first end other than Done is the end
abbrev pub thens : Next → Walk → (ℕ → Walk) → Walk
thens Done walk more = prefixed walk.leaves walk.nodes (more walk.left)
thens Answer walk more = walk
thens (Floundered line) walk more = walk
thens (OutOfRange line) walk more = walk
thens Spent walk more = walk

-- an atom's children that are still to be walked, with the path that led to its goal
pub record Choice : Type 0 where
  pub path : List Step
  pub place : ℕ
  pub atom : Atom
  pub others : List Child

module _ (program : Program) where
  -- the walk of such children
  abbrev pub choice_walk : Choice → ℕ → Walk
  choice_walk choice left = along choice.path (walk_each (grow_each (tree program) choice.place choice.atom choice.others left))

  -- a walk, and then those of the children that are left, the newest first
  abbrev pub choices_walk : List Choice → Walk → Walk
  choices_walk [] walk = walk
  choices_walk (choice ∷ choices) walk = choices_walk choices (thens walk.ending walk (choice_walk choice))

  -- the walk of the goal that is visited next, if there is one
  abbrev pub here : List Step → Option Goal → ℕ → Walk
  here path None left = done left
  here path (Some goal) left = along path (walk_of (tree program goal left))

  -- a walk under way: the children that are left, what was found so far, the goal that is visited next, and the selections left
  abbrev pub walk_under_way : List Choice → List Leaf → List Node → List Step → Option Goal → ℕ → Walk
  walk_under_way choices found nodes path current left = choices_walk choices (prefixed found nodes (here path current left))
