-- What a machine keeps, and the walks of trees under way that it is. Its goals are in cells: those of the goal that is visited as they are now, and those of each open goal and of each search that waits as they were at its mark.
use Rattle.std.specs.Prelude.{◌≡◌, Bool, true, false, ℕ, suc, ◌+◌, ◌*◌, ◌≤◌, ◌<◌, List, [], ◌∷◌, ◌++◌, take, drop, length, map, get_or, slice_get, reverse, Some, None, Option}
use Rattle.std.specs.List.{AllByRecursion}
use Rattle.le_base.specs.declared.stop.FoldKind.{FoldKind}
use Rattle.le_terms.specs.Tree.{Tree}
use Rattle.le_terms.specs.declared.program.Atom.{Atom}
use Rattle.le_terms.specs.declared.program.Clause.{Clause}
use Rattle.le_terms.specs.declared.program.Form.{Form}
use Rattle.le_terms.specs.declared.program.Form.TheVariants.{Pos, Neg, Calc, Gather}
use Rattle.le_terms.specs.declared.program.Literal.{Literal}
use Rattle.le_terms.specs.declared.program.Program.{Program}
use Rattle.le_terms.specs.Program.{predefined_arities}
use Rattle.le_subst.specs.Unifiers.{Bindings, value_at}
use Rattle.le_proofs.specs.declared.node.Node.{Node}
use Rattle.le_proofs.specs.declared.node.Node.TheVariants.{Split}
use Rattle.le_proofs.specs.Goals.{Goal, Picked, Child, selected, children, literals_under, terms_under, sub_goal, root_of, is_ground_atom}
use Rattle.le_proofs.specs.Proofs.{Step, Leaf}
use Rattle.le_proofs.specs.Search.{Outcome, goes_on, fails, ends, tree, value_of, is_covered}
use Rattle.le_derivations.specs.Walks.{Choice, walk_of, walk_under_way}
use Rattle.le_goals.specs.Shown.{Snapshot, Shown, goal_at, literal_of, HasLiteral, KeepsUnder}
use Rattle.le_paths.specs.declared.step.CellStep.{CellStep}
use Rattle.le_paths.specs.Paths.{LeadHere}
use Rattle.le_cells.specs.declared.returning.Child.{Child as CodeChild}
use Rattle.le_cells.specs.declared.goals.Outcome as code_outcome
use Rattle.le_cells.specs.declared.goals.Outcome.TheVariants.{GoesOn, Fails, Ends}
use Rattle.le_cells.specs.declared.goals.OpenGoal.{OpenGoal}
use Rattle.le_cells.specs.declared.goals.Search.{Search}
use Rattle.le_cells.specs.declared.goals.Searches.{Searches}
use Rattle.le_cells.specs.declared.goals.SubSearch.{SubSearch}
use Rattle.le_cells.specs.declared.goals.SubSearch.TheVariants.{Negation, Gather as Gathering}
use Rattle.le_cells.specs.declared.goals.Waiting.{Waiting}

-- the goals at a mark
abbrev pub no_snapshot : Snapshot
no_snapshot = record { next = 0; goals = [] }

abbrev pub snapshot_at : List Snapshot → ℕ → Snapshot
snapshot_at marks mark = get_or marks mark no_snapshot

-- the cells as they were at a mark
abbrev pub at_mark : Shown → ℕ → Shown
at_mark cells mark = record { program = cells.program; now = snapshot_at cells.marks mark; marks = cells.marks }

-- the goal of a number, as it is now
abbrev pub goal_now : Shown → ℕ → Goal
goal_now cells number = goal_at cells.now number

-- an open goal, and that of a search that waits
abbrev pub goal_of : List Snapshot → OpenGoal → Goal
goal_of marks kept = goal_at (snapshot_at marks kept.mark) kept.goal

abbrev pub waiting_goal : List Snapshot → Waiting → Goal
waiting_goal marks waiting = goal_at (snapshot_at marks waiting.mark) waiting.goal

-- all goals are under a unifier, or none changed and it is empty
pub data IsUnder (bindings : Bindings) (old new : Snapshot) : Type 0 where
  bound : KeepsUnder bindings old.next old new → IsUnder bindings old new
  unchanged : bindings ≡ [] → new ≡ old → IsUnder bindings old new

-- what becomes of a literal, and of all goals with it
abbrev pub Becomes : Snapshot → Snapshot → code_outcome.Outcome → Outcome → Type 0
Becomes old new GoesOn said = (bindings : Bindings) × (said ≡ goes_on bindings) × IsUnder bindings old new
Becomes old new Fails said = said ≡ fails
Becomes old new (Ends next) said = said ≡ ends next

-- a literal is searched: it is a negation or a gather
abbrev pub IsSearched : Form → Type 0
IsSearched (Pos atom) = ⊥
IsSearched (Neg atom) = Unit {0}
IsSearched (Calc atom) = ⊥
IsSearched (Gather fold result value atom) = Unit {0}

-- the literal at a place of some literals, with those before it and those after it
abbrev pub placed : List Literal → ℕ → Literal → Picked Literal
placed literals place literal = record { before = take place literals; chosen = literal; behind = drop (place + 1) literals }

-- some literals with others in the place of one
abbrev pub put_at : List Literal → ℕ → List Literal → List Literal
put_at literals place new = take place literals ++ (new ++ drop (place + 1) literals)

-- a goal with other literals in the place of one, and another next variable, under a unifier
abbrev pub goal_with : Goal → ℕ → ℕ → List Literal → Bindings → Goal
goal_with goal place next new bindings = record {
  next = next;
  literals = literals_under (value_at bindings) (put_at goal.literals place new);
  terms = terms_under (value_at bindings) goal.terms;
}

-- a literal of some literals stands at this place and is the selected one
abbrev pub Selects : Program → List Literal → ℕ → Literal → Type 0
Selects program literals place literal = (selected program.version literals ≡ Some (placed literals place literal)) × (literal ≡ get_or literals place literal)

-- the children of a goal by the clauses from a place on
abbrev pub children_from : Goal → ℕ → Literal → Atom → List Clause → ℕ → List Child
children_from goal place literal atom clauses from = children goal (placed goal.literals place literal) atom (from + 1) (drop from clauses)

-- an open goal, to which these steps led, is one whose children by the clauses that weren't tried are still to be visited
pub record IsOpenGoal (program : Program) (marks : List Snapshot) (kept : OpenGoal) (choice : Choice) (front : List CellStep) : Type 0 where
  pub literal : Literal
  pub selects : Selects program (goal_of marks kept).literals kept.place literal
  pub form : literal.form ≡ Pos choice.atom
  pub place_ : choice.place ≡ length (take kept.place (goal_of marks kept).literals)
  pub others_ : choice.others ≡ children_from (goal_of marks kept) kept.place literal choice.atom program.clauses kept.from
  pub steps_ : LeadHere (snapshot_at marks kept.mark) (reverse front) choice.path

-- the open goals of a search, the newest first, are these choices; the steps to each are the first ones of those to the next one
abbrev pub AreOpenGoals : Program → List Snapshot → List Choice → List OpenGoal → List CellStep → Type 0
AreOpenGoals program marks [] opens path = opens ≡ []
AreOpenGoals program marks (choice ∷ choices) [] path = ⊥
AreOpenGoals program marks (choice ∷ choices) (kept ∷ opens) path =
    (kept.steps ≤ length path) × IsOpenGoal program marks kept choice (take kept.steps path) × AreOpenGoals program marks choices opens (take kept.steps path)

-- the node of an open goal stands among some nodes, after others of which this holds, with the children that are still to be visited in its count
pub record HasSplit (kept : OpenGoal) (others : ℕ) (noted nodes : List Node) (holds : List Node → Type 0) : Type 0 where
  pub before : List Node
  pub shown : Node
  pub after : List Node
  pub inside : kept.split < length noted
  pub noted_ : noted ≡ take kept.split noted ++ (shown ∷ after)
  pub nodes_ : nodes ≡ before ++ (Split (kept.children + others) ∷ after)
  pub before_ : holds before

-- the nodes that were noted are these nodes but for the counts of the open goals
abbrev pub AreNodes : List Choice → List OpenGoal → List Node → List Node → Type 0
AreNodes [] opens noted nodes = noted ≡ nodes
AreNodes (choice ∷ choices) [] noted nodes = ⊥
AreNodes (choice ∷ choices) (kept ∷ opens) noted nodes = HasSplit kept (length choice.others) noted nodes (AreNodes choices opens (take kept.split noted))

-- steps that are kept lead to the goal that is visited next
abbrev pub LeadTo : Snapshot → Option Goal → List CellStep → List Step → Type 0
LeadTo now None path steps = Unit {0}
LeadTo now (Some goal) path steps = LeadHere now (reverse path) steps

-- what is kept of a search, the newest open goal first, is the walk of a goal's tree under way
pub record IsWalk (program : Program) (cells : Shown) (keeps : Bool) (path : List CellStep) (noted : List Node) (opens : List OpenGoal) (root : Goal) (total : ℕ) (current : Option Goal) (left : ℕ) (found : List Leaf) : Type 0 where
  pub choices : List Choice
  pub nodes : List Node
  pub steps : List Step
  pub walk : walk_under_way program choices found nodes steps current left ≡ walk_of (tree program root total)
  pub opens_ : AreOpenGoals program cells.marks choices opens path
  pub nodes_ : keeps ≡ true → AreNodes choices opens noted nodes
  pub steps_ : LeadTo cells.now current path steps

-- a search is the walk under way of the tree of a goal with so many selections, that found these leaves
abbrev pub Walks : Program → Shown → Search → Goal → ℕ → Option Goal → ℕ → List Leaf → Type 0
Walks program cells search root total current left found =
    IsWalk program cells search.keeps search.path.items search.nodes.items (reverse search.opens.items) root total current left found

-- the search of an atom is for a literal of this form
abbrev pub IsFor : SubSearch → Form → Atom → List Tree → List Leaf → Type 0
IsFor Negation form atom terms found = (form ≡ Neg atom) × (is_ground_atom atom ≡ true) × (terms ≡ []) × (found ≡ [])
IsFor (Gathering values) form atom terms found =
    (fold : FoldKind) × (result : Tree) × (value : Tree) × (form ≡ Gather fold result value atom) × (is_covered value atom ≡ true) × (terms ≡ value ∷ []) × (values.items ≡ map value_of found)

-- a search is that of the query
pub record IsMain (program : Program) (budget given : ℕ) (cells : Shown) (search : Search) (current : Option Goal) (left : ℕ) : Type 0 where
  pub found : List Leaf
  pub inner : Walks program cells search (root_of program) budget current left found
  pub count : length found ≡ given
  pub keeps : search.keeps ≡ false

-- a search is that of the atom of a literal, for which another search waits
pub record IsAsked (program : Program) (cells : Shown) (waiting : Waiting) (search : Search) (current : Option Goal) (left : ℕ) : Type 0 where
  pub literal : Literal
  pub atom : Atom
  pub terms : List Tree
  pub found : List Leaf
  pub spare : ℕ
  pub selects : Selects program (waiting_goal cells.marks waiting).literals waiting.place literal
  pub purpose : IsFor waiting.sub literal.form atom terms found
  pub inner : Walks program cells search (sub_goal (waiting_goal cells.marks waiting) literal.line atom terms) spare current left found
  pub keeps : search.keeps ≡ true

-- a search and those that wait around it, the innermost first, are the search of the query under way
abbrev pub IsUnderWay : Program → ℕ → ℕ → Shown → List Waiting → Search → Option Goal → ℕ → Type 0
IsUnderWay program budget given cells [] search current left = IsMain program budget given cells search current left
IsUnderWay program budget given cells (waiting ∷ around) search current left =
    (asked : IsAsked program cells waiting search current left) × IsUnderWay program budget given (at_mark cells waiting.mark) around waiting.search (Some (waiting_goal cells.marks waiting)) (suc asked.spare)

-- ---- what keeps numbers low, computed literals computable, and marks in order

-- a computed literal's predicate is a computed one, with its number of arguments
abbrev pub IsComputable : Form → Type 0
IsComputable (Pos atom) = Unit {0}
IsComputable (Neg atom) = Unit {0}
IsComputable (Calc atom) = (atom.pred < 18) × (slice_get predefined_arities atom.pred ≡ Some (length atom.args))
IsComputable (Gather fold result value atom) = Unit {0}

-- so is each of some literals
abbrev pub AreComputable : List Literal → Type 0
AreComputable literals = AllByRecursion (λ literal. IsComputable literal.form) literals

-- the number of a goal's next variable is so low that each selection left may raise it by 64, and its computed literals can be computed
pub record IsReady (left : ℕ) (goal : Goal) : Type 0 where
  pub low : goal.next + 64 * left ≤ 64000064
  pub computable : AreComputable goal.literals

-- so is the goal of a number, which is there
pub record IsReadyAt (left : ℕ) (snapshot : Snapshot) (number : ℕ) : Type 0 where
  pub there : number < length snapshot.goals
  pub next_ : (goal_at snapshot number).next ≡ snapshot.next
  pub ready : IsReady left (goal_at snapshot number)

-- a goal whose literal at a place was selected is so, with one selection more, since it took one itself
pub record IsOpen (left : ℕ) (snapshot : Snapshot) (number place : ℕ) : Type 0 where
  pub ready : IsReadyAt (suc left) snapshot number
  pub inside : place < length (goal_at snapshot number).literals

-- each open goal is so
abbrev pub AreOpen : ℕ → List Snapshot → List OpenGoal → Type 0
AreOpen left marks opens = AllByRecursion (λ kept. IsOpen left (snapshot_at marks kept.mark) kept.goal kept.place) opens

-- each search that waits, and its goal, is so
pub record CanWait (left : ℕ) (marks : List Snapshot) (waiting : Waiting) : Type 0 where
  pub goal : IsOpen left (snapshot_at marks waiting.mark) waiting.goal waiting.place
  pub opens : AreOpen left marks waiting.search.opens.items

abbrev pub CanWaitAll : ℕ → List Snapshot → List Waiting → Type 0
CanWaitAll left marks waiting = AllByRecursion (CanWait left marks) waiting

-- the marks of a search's open goals, the newest first, before others
abbrev pub open_marks : List OpenGoal → List ℕ → List ℕ
open_marks opens others = map (λ (kept : OpenGoal). kept.mark) (reverse opens) ++ others

-- the marks of searches that wait, the innermost first
abbrev pub waiting_marks : List Waiting → List ℕ
waiting_marks [] = []
waiting_marks (waiting ∷ around) = waiting.mark ∷ open_marks waiting.search.opens.items (waiting_marks around)

abbrev pub marks_of : Searches → List ℕ
marks_of searches = open_marks searches.inner.opens.items (waiting_marks (reverse searches.waiting.items))

-- numbers below this one, each below the one before it
abbrev pub AreFalling : ℕ → List ℕ → Type 0
AreFalling high [] = Unit {0}
AreFalling high (n ∷ ns) = (n < high) × AreFalling n ns

-- the goals of all searches are ready, and the older a goal is, the older is its mark
pub record AreReady (left : ℕ) (marks : List Snapshot) (searches : Searches) : Type 0 where
  pub marked : AreFalling (length marks) (marks_of searches)
  pub opens : AreOpen left marks searches.inner.opens.items
  pub waiting : CanWaitAll left marks searches.waiting.items
