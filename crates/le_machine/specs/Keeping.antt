-- What a machine keeps, and the walks of trees under way that it is.
use Rattle.std.specs.Prelude.{◌≡◌, Bool, true, false, ℕ, suc, ◌+◌, ◌*◌, ◌≤◌, ◌<◌, List, [], ◌∷◌, ◌++◌, take, drop, length, map, get_or, slice_get, reverse, Some, None, Option}
use Rattle.std.specs.List.{AllByRecursion}
use Rattle.le_base.specs.declared.stop.FoldKind.{FoldKind}
use Rattle.le_terms.specs.Tree.{Tree}
use Rattle.le_terms.specs.declared.program.Atom.{Atom}
use Rattle.le_terms.specs.declared.program.Clause.{Clause}
use Rattle.le_terms.specs.declared.program.Form.{Form}
use Rattle.le_terms.specs.declared.program.Form.TheVariants.{Pos, Neg, Calc, Gather}
use Rattle.le_terms.specs.declared.program.Literal.{Literal}
use Rattle.le_terms.specs.declared.program.Program.{Program}
use Rattle.le_terms.specs.Program.{predefined_arities}
use Rattle.le_subst.specs.Unifiers.{Bindings, value_at}
use Rattle.le_proofs.specs.declared.node.Node.{Node}
use Rattle.le_proofs.specs.declared.node.Node.TheVariants.{Split}
use Rattle.le_proofs.specs.Goals.{Goal, Picked, Child, selected, children, literals_under, terms_under, sub_goal, root_of, is_ground_atom}
use Rattle.le_proofs.specs.Proofs.{Step, Leaf}
use Rattle.le_proofs.specs.Search.{Outcome, goes_on, fails, ends, tree, value_of, is_covered}
use Rattle.le_derivations.specs.declared.path.PathStep.{PathStep}
use Rattle.le_derivations.specs.Paths.{AreSteps}
use Rattle.le_derivations.specs.Walks.{Choice, walk_of, walk_under_way}
use Rattle.le_machine.specs.declared.goals.Goal as code
use Rattle.le_machine.specs.declared.goals.Child as code_child
use Rattle.le_machine.specs.declared.goals.Outcome as code_outcome
use Rattle.le_machine.specs.declared.goals.Outcome.TheVariants.{GoesOn, Fails, Ends}
use Rattle.le_machine.specs.declared.goals.Kind.{Kind}
use Rattle.le_machine.specs.declared.goals.Kind.TheVariants.{Atom as Atomic, Computed, Searched}
use Rattle.le_machine.specs.declared.goals.OpenGoal.{OpenGoal}
use Rattle.le_machine.specs.declared.goals.Search.{Search}
use Rattle.le_machine.specs.declared.goals.Searches.{Searches}
use Rattle.le_machine.specs.declared.goals.SubSearch.{SubSearch}
use Rattle.le_machine.specs.declared.goals.SubSearch.TheVariants.{Negation, Gather as Gathering}
use Rattle.le_machine.specs.declared.goals.Waiting.{Waiting}

-- a machine's goal as the goal that it is
abbrev pub goal_of : code.Goal → Goal
goal_of goal = record { next = goal.next; literals = goal.literals.items; terms = goal.terms.items }

-- a machine's child as the child that it is
abbrev pub child_of : code_child.Child → Child
child_of child = record { clause = child.clause; count = child.count; unifier = child.unifier; goal = goal_of child.goal }

-- what becomes of a literal
abbrev pub outcome_of : code_outcome.Outcome → Outcome
outcome_of (GoesOn unifier) = goes_on unifier
outcome_of Fails = fails
outcome_of (Ends next) = ends next

-- what kind of literal one of this form is
abbrev pub kind_of : Form → Kind
kind_of (Pos atom) = Atomic
kind_of (Neg atom) = Searched
kind_of (Calc atom) = Computed
kind_of (Gather fold result value atom) = Searched

-- the literal at a place of some literals, with those before it and those after it
abbrev pub placed : List Literal → ℕ → Literal → Picked Literal
placed literals place literal = record { before = take place literals; chosen = literal; behind = drop (place + 1) literals }

-- some literals with others in the place of one
abbrev pub put_at : List Literal → ℕ → List Literal → List Literal
put_at literals place new = take place literals ++ (new ++ drop (place + 1) literals)

-- a goal with other literals in the place of one, and another next variable, under a unifier
abbrev pub goal_with : Goal → ℕ → ℕ → List Literal → Bindings → Goal
goal_with goal place next new bindings = record {
  next = next;
  literals = literals_under (value_at bindings) (put_at goal.literals place new);
  terms = terms_under (value_at bindings) goal.terms;
}

-- a literal of some literals stands at this place and is the selected one
abbrev pub Selects : Program → List Literal → ℕ → Literal → Type 0
Selects program literals place literal = (selected program.version literals ≡ Some (placed literals place literal)) × (literal ≡ get_or literals place literal)

-- the children of a goal by the clauses from a place on
abbrev pub children_from : Goal → ℕ → Literal → Atom → List Clause → ℕ → List Child
children_from goal place literal atom clauses from = children goal (placed goal.literals place literal) atom (from + 1) (drop from clauses)

-- an open goal, to which these steps led, is one whose children by the clauses that weren't tried are still to be visited
pub record IsOpenGoal (program : Program) (kept : OpenGoal) (choice : Choice) (front : List PathStep) : Type 0 where
  pub literal : Literal
  pub selects : Selects program kept.goal.literals.items kept.place literal
  pub form : literal.form ≡ Pos choice.atom
  pub place_ : choice.place ≡ length (take kept.place kept.goal.literals.items)
  pub others_ : choice.others ≡ children_from (goal_of kept.goal) kept.place literal choice.atom program.clauses kept.from
  pub steps_ : AreSteps (reverse front) choice.path

-- the open goals of a search, the newest first, are these choices; the steps to each are the first ones of those to the next one
abbrev pub AreOpenGoals : Program → List Choice → List OpenGoal → List PathStep → Type 0
AreOpenGoals program [] opens path = opens ≡ []
AreOpenGoals program (choice ∷ choices) [] path = ⊥
AreOpenGoals program (choice ∷ choices) (kept ∷ opens) path =
    (kept.steps ≤ length path) × IsOpenGoal program kept choice (take kept.steps path) × AreOpenGoals program choices opens (take kept.steps path)

-- the node of an open goal stands among some nodes, after others of which this holds, with the children that are still to be visited in its count
pub record HasSplit (kept : OpenGoal) (others : ℕ) (noted nodes : List Node) (holds : List Node → Type 0) : Type 0 where
  pub before : List Node
  pub shown : Node
  pub after : List Node
  pub inside : kept.split < length noted
  pub noted_ : noted ≡ take kept.split noted ++ (shown ∷ after)
  pub nodes_ : nodes ≡ before ++ (Split (kept.children + others) ∷ after)
  pub before_ : holds before

-- the nodes that were noted are these nodes but for the counts of the open goals
abbrev pub AreNodes : List Choice → List OpenGoal → List Node → List Node → Type 0
AreNodes [] opens noted nodes = noted ≡ nodes
AreNodes (choice ∷ choices) [] noted nodes = ⊥
AreNodes (choice ∷ choices) (kept ∷ opens) noted nodes = HasSplit kept (length choice.others) noted nodes (AreNodes choices opens (take kept.split noted))

-- steps that are kept lead to the goal that is visited next
abbrev pub LeadTo : Option Goal → List PathStep → List Step → Type 0
LeadTo None path steps = Unit {0}
LeadTo (Some goal) path steps = AreSteps (reverse path) steps

-- what is kept of a search, the newest open goal first, is the walk of a goal's tree under way
pub record IsWalk (program : Program) (keeps : Bool) (path : List PathStep) (noted : List Node) (opens : List OpenGoal) (root : Goal) (total : ℕ) (current : Option Goal) (left : ℕ) (found : List Leaf) : Type 0 where
  pub choices : List Choice
  pub nodes : List Node
  pub steps : List Step
  pub walk : walk_under_way program choices found nodes steps current left ≡ walk_of (tree program root total)
  pub opens_ : AreOpenGoals program choices opens path
  pub nodes_ : keeps ≡ true → AreNodes choices opens noted nodes
  pub steps_ : LeadTo current path steps

-- a search is the walk under way of the tree of a goal with so many selections, that found these leaves
abbrev pub Walks : Program → Search → Goal → ℕ → Option Goal → ℕ → List Leaf → Type 0
Walks program search root total current left found =
    IsWalk program search.keeps search.path.items search.nodes.items (reverse search.opens.items) root total current left found

-- the search of an atom is for a literal of this form
abbrev pub IsFor : SubSearch → Form → Atom → List Tree → List Leaf → Type 0
IsFor Negation form atom terms found = (form ≡ Neg atom) × (is_ground_atom atom ≡ true) × (terms ≡ []) × (found ≡ [])
IsFor (Gathering values) form atom terms found =
    (fold : FoldKind) × (result : Tree) × (value : Tree) × (form ≡ Gather fold result value atom) × (is_covered value atom ≡ true) × (terms ≡ value ∷ []) × (values.items ≡ map value_of found)

-- a search is that of the query
pub record IsMain (program : Program) (budget given : ℕ) (search : Search) (current : Option Goal) (left : ℕ) : Type 0 where
  pub found : List Leaf
  pub inner : Walks program search (root_of program) budget current left found
  pub count : length found ≡ given
  pub keeps : search.keeps ≡ false

-- a search is that of the atom of a literal, for which another search waits
pub record IsAsked (program : Program) (waiting : Waiting) (search : Search) (current : Option Goal) (left : ℕ) : Type 0 where
  pub literal : Literal
  pub atom : Atom
  pub terms : List Tree
  pub found : List Leaf
  pub spare : ℕ
  pub selects : Selects program waiting.goal.literals.items waiting.place literal
  pub purpose : IsFor waiting.sub literal.form atom terms found
  pub inner : Walks program search (sub_goal (goal_of waiting.goal) literal.line atom terms) spare current left found
  pub keeps : search.keeps ≡ true

-- a search and those that wait around it, the innermost first, are the search of the query under way
abbrev pub IsUnderWay : Program → ℕ → ℕ → List Waiting → Search → Option Goal → ℕ → Type 0
IsUnderWay program budget given [] search current left = IsMain program budget given search current left
IsUnderWay program budget given (waiting ∷ around) search current left =
    (asked : IsAsked program waiting search current left) × IsUnderWay program budget given around waiting.search (Some (goal_of waiting.goal)) (suc asked.spare)

-- ---- what keeps numbers low, and computed literals computable

-- a computed literal's predicate is a computed one, with its number of arguments
abbrev pub IsComputable : Form → Type 0
IsComputable (Pos atom) = Unit {0}
IsComputable (Neg atom) = Unit {0}
IsComputable (Calc atom) = (atom.pred < 18) × (slice_get predefined_arities atom.pred ≡ Some (length atom.args))
IsComputable (Gather fold result value atom) = Unit {0}

-- so is each of some literals
abbrev pub AreComputable : List Literal → Type 0
AreComputable literals = AllByRecursion (λ literal. IsComputable literal.form) literals

-- the number of a goal's next variable is so low that each selection left may raise it by 64, and its computed literals can be computed
pub record IsReady (left : ℕ) (goal : code.Goal) : Type 0 where
  pub low : goal.next + 64 * left ≤ 64000064
  pub computable : AreComputable goal.literals.items

-- a goal whose literal at a place was selected is so, with one selection more, since it took one itself
pub record IsOpen (left : ℕ) (goal : code.Goal) (place : ℕ) : Type 0 where
  pub ready : IsReady (suc left) goal
  pub inside : place < length goal.literals.items

-- each open goal is so
abbrev pub AreOpen : ℕ → List OpenGoal → Type 0
AreOpen left opens = AllByRecursion (λ kept. IsOpen left kept.goal kept.place) opens

-- each search that waits, and its goal, is so
pub record CanWait (left : ℕ) (waiting : Waiting) : Type 0 where
  pub goal : IsOpen left waiting.goal waiting.place
  pub opens : AreOpen left waiting.search.opens.items

abbrev pub CanWaitAll : ℕ → List Waiting → Type 0
CanWaitAll left waiting = AllByRecursion (CanWait left) waiting

-- the goals of all searches are ready
pub record AreReady (left : ℕ) (searches : Searches) : Type 0 where
  pub opens : AreOpen left searches.inner.opens.items
  pub waiting : CanWaitAll left searches.waiting.items
