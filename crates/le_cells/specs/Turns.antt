-- What a machine does next, and what it comes to.
use Rattle.std.specs.Prelude.{◌≡◌, Bool, true, false, ◌++◌, ℕ, ◌+◌, ◌-◌, ◌*◌, ◌<◌, ◌^◌, ◌≤◌, List, [], ◌∷◌, length, take, reverse, slice_get, Option, Some, None}
use Rattle.le_terms.specs.declared.program.Clause.{Clause}
use Rattle.le_terms.specs.Tree.{Tree}
use Rattle.le_terms.specs.declared.program.Atom.{Atom}
use Rattle.le_terms.specs.declared.program.Form.{Form}
use Rattle.le_terms.specs.declared.program.Form.TheVariants.{Pos, Neg, Calc, Gather}
use Rattle.le_terms.specs.declared.program.Literal.{Literal}
use Rattle.le_terms.specs.declared.program.Program.{Program}
use Rattle.le_terms.specs.Program.{IsClause, form_atom}
use Rattle.le_proofs.specs.Goals.{Goal, Child, is_ground_atom, head_solution, resolvent_by}
use Rattle.le_proofs.specs.Proofs.{Leaf}
use Rattle.le_proofs.specs.UnderWay.{IsStop}
use Rattle.le_proofs.specs.Search.{tree, is_covered}
use Rattle.le_proofs.specs.declared.node.Node.{Node}
use Rattle.le_proofs.specs.declared.node.Node.TheVariants.{Split, Branch}
use Rattle.le_derivations.specs.Walks.{walk_of, EndsWith}
use Rattle.le_subst.specs.Unifiers.{Bindings}
use Rattle.le_goals.specs.Shown.{Snapshot, Shown, goal_at, picked_at, sub_terms, KeepsUnder}
use Rattle.le_paths.specs.declared.step.CellStep.{CellStep}
use Rattle.le_cells.specs.declared.returning.Child.{Child as CodeChild}
use Rattle.le_cells.specs.declared.goals.Outcome.{Outcome}
use Rattle.le_cells.specs.declared.goals.Outcome.TheVariants.{GoesOn, Fails, Ends}
use Rattle.le_cells.specs.declared.goals.OpenGoal.{OpenGoal}
use Rattle.le_cells.specs.declared.goals.Search.{Search}
use Rattle.le_cells.specs.declared.goals.Searches.{Searches}
use Rattle.le_cells.specs.declared.goals.SubSearch.{SubSearch}
use Rattle.le_cells.specs.declared.goals.Waiting.{Waiting}
use Rattle.le_cells.specs.declared.goals.Turn.{Turn}
use Rattle.le_cells.specs.declared.goals.Turn.TheVariants.{Visit, Back, Found}
use Rattle.le_cells.specs.declared.goals.Found.TheVariants.{Leaf as Found_leaf, End}
use Rattle.le_cells.specs.declared.goals.Settled.{Settled}
use Rattle.le_cells.specs.declared.goals.Settled.TheVariants as settled
use Rattle.le_cells.specs.Keeping.{goal_now, Walks, IsFor, IsSearched, IsUnderWay, AreComputable, IsReadyAt}
use Rattle.le_cells.specs.State.{Advances}

-- an end that a literal comes to is one of a search that isn't done
abbrev pub MayEnd : Outcome → Type 0
MayEnd GoesOn = Unit {0}
MayEnd Fails = Unit {0}
MayEnd (Ends next) = IsStop next

-- a search that visits this goal next becomes one that visits another one, and has found what it had
abbrev pub Leads : Program → Shown → Search → Option Goal → ℕ → Shown → Search → Option Goal → ℕ → Type 0
Leads program cells before current left cells' after next less =
    (root : Goal) (total : ℕ) (found : List Leaf) → Walks program cells before root total current left found → Walks program cells' after root total next less found

-- what is done next where a goal was visited and only its search changed: another goal of it is visited, it goes back, or it ends as the goal's tree does
abbrev pub LeadsBy : Program → Shown → Search → Goal → ℕ → Shown → Search → Turn → ℕ → Type 0
LeadsBy program cells before goal left cells' after (Visit next) less = Leads program cells before (Some goal) left cells' after (Some (goal_now cells' next)) less
LeadsBy program cells before goal left cells' after Back less = Leads program cells before (Some goal) left cells' after None less
LeadsBy program cells before goal left cells' after (Found (End next)) less = IsStop next × EndsWith (walk_of (tree program goal left)) [] next less
LeadsBy program cells before goal left cells' after (Found (Found_leaf number)) less = ⊥

-- the search of the atom of a literal is for this
abbrev pub BeginsBy : Form → SubSearch → Type 0
BeginsBy form sub = IsFor sub form (form_atom form) (sub_terms form) []

-- the atom of a literal can't be searched: a negation's holds a variable, or a gather's holds one that its value doesn't hold
abbrev pub CannotBegin : Form → Type 0
CannotBegin (Pos atom) = ⊥
CannotBegin (Neg atom) = is_ground_atom atom ≡ false
CannotBegin (Calc atom) = ⊥
CannotBegin (Gather fold result value atom) = is_covered value atom ≡ false

-- a search with some steps and nodes more
pub record Extends (before after : Search) (steps : List CellStep) (nodes : List Node) : Type 0 where
  pub keeps_ : after.keeps ≡ before.keeps
  pub opens_ : after.opens.items ≡ before.opens.items
  pub path_ : after.path.items ≡ before.path.items ++ steps
  pub nodes_ : before.keeps ≡ true → after.nodes.items ≡ before.nodes.items ++ nodes

-- the count of the node at a place among nodes is put, where nodes are kept and it is there
abbrev pub SplitIs : Bool → ℕ → ℕ → List Node → List Node → Type 0
SplitIs keeps split children before after =
    keeps ≡ true → (front : List Node) (shown : Node) (behind : List Node) → before ≡ front ++ (shown ∷ behind) → length front ≡ split → after ≡ front ++ (Split children ∷ behind)

-- a search that goes back, or visits this goal
abbrev pub WalksBy : Program → Shown → Search → Goal → ℕ → Turn → ℕ → List Leaf → Type 0
WalksBy program cells search root total (Visit goal) left found = Walks program cells search root total (Some (goal_now cells goal)) left found
WalksBy program cells search root total Back left found = Walks program cells search root total None left found
WalksBy program cells search root total (Found answer) left found = ⊥

-- the searches are the search of the query under way
abbrev pub AreUnderWay : Program → ℕ → ℕ → Shown → Searches → Option Goal → ℕ → Type 0
AreUnderWay program budget given cells searches current left = IsUnderWay program budget given cells (reverse searches.waiting.items) searches.inner current left

-- what a machine does next comes to the whole search
abbrev pub Comes : Program → ℕ → ℕ → Shown → Searches → Turn → ℕ → Type 0
Comes program budget given cells searches (Visit goal) left = AreUnderWay program budget given cells searches (Some (goal_now cells goal)) left
Comes program budget given cells searches Back left = AreUnderWay program budget given cells searches None left
Comes program budget given cells searches (Found found) left = Advances program budget given found left cells searches

-- the goal that is visited next is ready
abbrev pub IsReadyTurn : ℕ → Shown → Turn → Type 0
IsReadyTurn left cells (Visit goal) = IsReadyAt left cells.now goal
IsReadyTurn left cells Back = Unit {0}
IsReadyTurn left cells (Found found) = Unit {0}

-- an open goal was taken from others, and left open again where its child is visited
pub record IsSameGoal (old new : OpenGoal) : Type 0 where
  pub mark_ : new.mark ≡ old.mark
  pub goal_ : new.goal ≡ old.goal
  pub place_ : new.place ≡ old.place

abbrev pub OpensBy : OpenGoal → List OpenGoal → Turn → List OpenGoal → Type 0
OpensBy pending opens (Visit goal) after = (kept : OpenGoal) × (after ≡ opens ++ kept ∷ []) × IsSameGoal pending kept
OpensBy pending opens Back after = after ≡ opens
OpensBy pending opens (Found found) after = ⊥

-- how much a machine can still do without a selection: twice for each clause that can still be tried, and twice for each open goal and for each search that waits
abbrev pub opens_weight : ℕ → List OpenGoal → ℕ
opens_weight clauses [] = 0
opens_weight clauses (kept ∷ opens) = (2 * (clauses - kept.from) + 2) + opens_weight clauses opens

abbrev pub waiting_weight : ℕ → List Waiting → ℕ
waiting_weight clauses [] = 0
waiting_weight clauses (waiting ∷ around) = (2 + opens_weight clauses waiting.search.opens.items) + waiting_weight clauses around

abbrev pub weight : ℕ → Searches → ℕ
weight clauses searches = opens_weight clauses searches.inner.opens.items + waiting_weight clauses searches.waiting.items

abbrev pub turn_weight : Turn → ℕ
turn_weight (Visit goal) = 2
turn_weight Back = 1
turn_weight (Found found) = 0

-- what is left of some children once the first of them, if there is one, is this, under whose unifier all goals are then
abbrev pub GoOn : Snapshot → Snapshot → List Child → Option CodeChild → List Child → Type 0
GoOn old new children None others = children ≡ []
GoOn old new children (Some child) others =
    (unifier : Bindings)
    × (children ≡ record { clause = child.clause; count = child.count; unifier = unifier; goal = goal_at new child.goal } ∷ others)
    × KeepsUnder unifier (goal_at new child.goal).next old new

-- a goal's child by the clause of a number, under whose unifier all goals are then
pub record IsChildBy (old new : Snapshot) (goal place : ℕ) (atom : Atom) (number : ℕ) (clause : Clause) (child : CodeChild) : Type 0 where
  pub unifier : Bindings
  pub solution : head_solution old.next clause atom ≡ Some unifier
  pub clause_ : child.clause ≡ number
  pub count_ : child.count ≡ length clause.body
  pub goal_ : slice_get new.goals child.goal ≡ Some (resolvent_by (goal_at old goal) (picked_at (goal_at old goal) place) clause unifier)
  pub keeps_ : KeepsUnder unifier (old.next + clause.vars) old new

-- what the clause of a number gives for a goal
abbrev pub IsChild : Snapshot → Snapshot → ℕ → ℕ → Atom → ℕ → Clause → Option CodeChild → Type 0
IsChild old new goal place atom number clause None = head_solution old.next clause atom ≡ None
IsChild old new goal place atom number clause (Some child) = IsChildBy old new goal place atom number clause child

-- the goal of a child is there and ready to be visited, with at most 64 variables more
pub record IsChildReady (next : ℕ) (snapshot : Snapshot) (number : ℕ) : Type 0 where
  pub there : number < length snapshot.goals
  pub next_ : (goal_at snapshot number).next ≡ snapshot.next
  pub low : snapshot.next ≤ next + 64
  pub computable : AreComputable (goal_at snapshot number).literals

-- a search that visits a child of an open goal, which was taken from the open ones and is left open again
pub record Enters (before after : Search) (pending : OpenGoal) (tried : ℕ) (child : CodeChild) : Type 0 where
  pub keeps_ : after.keeps ≡ before.keeps
  pub path_ : after.path.items ≡ take pending.steps before.path.items ++ record { goal = pending.goal; place = pending.place; clause = child.clause; count = child.count; below = [] } ∷ []
  pub nodes_ : before.keeps ≡ true → after.nodes.items ≡ before.nodes.items ++ Branch child.clause ∷ []
  pub opens_ : after.opens.items ≡ before.opens.items ++ record { mark = pending.mark; goal = pending.goal; place = pending.place; from = tried; steps = pending.steps; split = pending.split; children = pending.children + 1 } ∷ []

-- a clause is well formed, its body's length fits, and the computed literals of its body can be computed
pub record IsReadyClause (clause : Clause) : Type 0 where
  pub clause_ : IsClause clause
  pub short : length clause.body < 2 ^ 31
  pub computable : AreComputable clause.body

-- what a machine comes to without a selection comes to the whole search
abbrev pub SettledComes : Program → ℕ → ℕ → Shown → Searches → Settled → ℕ → Type 0
SettledComes program budget given cells searches (settled.Goal goal) left = AreUnderWay program budget given cells searches (Some (goal_now cells goal)) left
SettledComes program budget given cells searches (settled.Found found) left = Advances program budget given found left cells searches

abbrev pub IsReadySettled : ℕ → Shown → Settled → Type 0
IsReadySettled left cells (settled.Goal goal) = IsReadyAt left cells.now goal × (0 < length (goal_now cells goal).literals)
IsReadySettled left cells (settled.Found found) = Unit {0}

-- where a visit goes on, it took a selection
abbrev pub TakesOne : Turn → ℕ → ℕ → Type 0
TakesOne (Visit goal) left less = less < left
TakesOne Back left less = less < left
TakesOne (Found found) left less = Unit {0}

-- the step past a literal, below which these nodes are
abbrev pub past : ℕ → ℕ → List Node → CellStep
past goal place below = record { goal = goal; place = place; clause = 0; count = 0; below = below }

-- a goal that is left open
abbrev pub opened : Shown → Search → ℕ → ℕ → OpenGoal
opened cells search goal place = record { mark = length cells.marks; goal = goal; place = place; from = 0; steps = length search.path.items; split = length search.nodes.items; children = 0 }

-- what becomes of an equation by whether its terms have a unifier
abbrev pub ByEquation : Bool → Outcome → Type 0
ByEquation true outcome = outcome ≡ GoesOn
ByEquation false outcome = outcome ≡ Fails
