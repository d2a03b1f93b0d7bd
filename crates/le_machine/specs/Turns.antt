-- What a machine does next, and what it comes to.
use Rattle.std.specs.Prelude.{◌≡◌, Bool, true, false, ◌++◌, ℕ, ◌+◌, ◌-◌, ◌*◌, ◌<◌, ◌^◌, List, [], ◌∷◌, length, reverse, Option, Some, None}
use Rattle.le_terms.specs.declared.program.Clause.{Clause}
use Rattle.le_terms.specs.Tree.{Tree}
use Rattle.le_terms.specs.declared.program.Atom.{Atom}
use Rattle.le_terms.specs.declared.program.Form.{Form}
use Rattle.le_terms.specs.declared.program.Form.TheVariants.{Pos, Neg, Calc, Gather}
use Rattle.le_terms.specs.declared.program.Literal.{Literal}
use Rattle.le_terms.specs.declared.program.Program.{Program}
use Rattle.le_terms.specs.Program.{IsClause}
use Rattle.le_proofs.specs.Goals.{Goal, Child, is_ground_atom}
use Rattle.le_proofs.specs.Proofs.{Leaf}
use Rattle.le_proofs.specs.UnderWay.{IsStop}
use Rattle.le_proofs.specs.Search.{tree, is_covered}
use Rattle.le_proofs.specs.declared.node.Node.{Node}
use Rattle.le_proofs.specs.declared.node.Node.TheVariants.{Split}
use Rattle.le_derivations.specs.declared.path.PathStep.{PathStep}
use Rattle.le_derivations.specs.Walks.{walk_of, EndsWith}
use Rattle.le_machine.specs.declared.goals.Goal as code
use Rattle.le_machine.specs.declared.goals.Child as code_child
use Rattle.le_machine.specs.declared.goals.Outcome.{Outcome}
use Rattle.le_machine.specs.declared.goals.Outcome.TheVariants.{GoesOn, Fails, Ends}
use Rattle.le_machine.specs.declared.goals.OpenGoal.{OpenGoal}
use Rattle.le_machine.specs.declared.goals.Search.{Search}
use Rattle.le_machine.specs.declared.goals.Searches.{Searches}
use Rattle.le_machine.specs.declared.goals.SubSearch.{SubSearch}
use Rattle.le_machine.specs.declared.goals.Waiting.{Waiting}
use Rattle.le_machine.specs.declared.goals.Turn.{Turn}
use Rattle.le_machine.specs.declared.goals.Turn.TheVariants.{Visit, Back, Found}
use Rattle.le_machine.specs.declared.goals.Found.TheVariants.{Leaf as Found_leaf, End}
use Rattle.le_machine.specs.declared.goals.Settled.{Settled}
use Rattle.le_machine.specs.declared.goals.Settled.TheVariants as settled
use Rattle.le_machine.specs.Keeping.{goal_of, child_of, Walks, IsFor, IsUnderWay, AreComputable, IsReady}
use Rattle.le_machine.specs.State.{Advances}

-- an end that a literal comes to is one of a search that isn't done
abbrev pub MayEnd : Outcome → Type 0
MayEnd (GoesOn unifier) = Unit {0}
MayEnd Fails = Unit {0}
MayEnd (Ends next) = IsStop next

-- a search that visits this goal next becomes one that visits another one, and has found what it had
abbrev pub Leads : Program → Search → Option Goal → ℕ → Search → Option Goal → ℕ → Type 0
Leads program before current left after next less =
    (root : Goal) (total : ℕ) (found : List Leaf) → Walks program before root total current left found → Walks program after root total next less found

-- what is done next where a goal was visited and only its search changed: another goal of it is visited, it goes back, or it ends as the goal's tree does
abbrev pub LeadsBy : Program → Search → Goal → ℕ → Search → Turn → ℕ → Type 0
LeadsBy program before goal left after (Visit next) less = Leads program before (Some goal) left after (Some (goal_of next)) less
LeadsBy program before goal left after Back less = Leads program before (Some goal) left after None less
LeadsBy program before goal left after (Found (End next)) less = IsStop next × EndsWith (walk_of (tree program goal left)) [] next less
LeadsBy program before goal left after (Found (Found_leaf terms)) less = ⊥

-- the search of the atom of this literal begins with this goal
pub record BeginsBy (next : ℕ) (literal : Literal) (sub : SubSearch) (first : code.Goal) : Type 0 where
  pub atom : Atom
  pub terms : List Tree
  pub purpose : IsFor sub literal.form atom terms []
  pub goal : goal_of first ≡ record { next = next; literals = record { line = literal.line; form = Pos atom } ∷ []; terms = terms }

-- the atom of a literal can't be searched: a negation's holds a variable, or a gather's holds one that its value doesn't hold
abbrev pub CannotBegin : Form → Type 0
CannotBegin (Pos atom) = ⊥
CannotBegin (Neg atom) = is_ground_atom atom ≡ false
CannotBegin (Calc atom) = ⊥
CannotBegin (Gather fold result value atom) = is_covered value atom ≡ false

-- a search with some steps and nodes more
pub record Extends (before after : Search) (steps : List PathStep) (nodes : List Node) : Type 0 where
  pub keeps_ : after.keeps ≡ before.keeps
  pub opens_ : after.opens.items ≡ before.opens.items
  pub path_ : after.path.items ≡ before.path.items ++ steps
  pub nodes_ : before.keeps ≡ true → after.nodes.items ≡ before.nodes.items ++ nodes

-- the count of the node at a place among nodes is put, where nodes are kept and it is there
abbrev pub SplitIs : Bool → ℕ → ℕ → List Node → List Node → Type 0
SplitIs keeps split children before after =
    keeps ≡ true → (front : List Node) (shown : Node) (behind : List Node) → before ≡ front ++ (shown ∷ behind) → length front ≡ split → after ≡ front ++ (Split children ∷ behind)

-- a search that goes back, or visits this goal
abbrev pub WalksBy : Program → Search → Goal → ℕ → Turn → ℕ → List Leaf → Type 0
WalksBy program search root total (Visit goal) left found = Walks program search root total (Some (goal_of goal)) left found
WalksBy program search root total Back left found = Walks program search root total None left found
WalksBy program search root total (Found answer) left found = ⊥

-- the searches are the search of the query under way
abbrev pub AreUnderWay : Program → ℕ → ℕ → Searches → Option Goal → ℕ → Type 0
AreUnderWay program budget given searches current left = IsUnderWay program budget given (reverse searches.waiting.items) searches.inner current left

-- what a machine does next comes to the whole search
abbrev pub Comes : Program → ℕ → ℕ → Searches → Turn → ℕ → Type 0
Comes program budget given searches (Visit goal) left = AreUnderWay program budget given searches (Some (goal_of goal)) left
Comes program budget given searches Back left = AreUnderWay program budget given searches None left
Comes program budget given searches (Found found) left = Advances program budget given found left searches

-- the goal that is visited next is ready
abbrev pub IsReadyTurn : ℕ → Turn → Type 0
IsReadyTurn left (Visit goal) = IsReady left goal
IsReadyTurn left Back = Unit {0}
IsReadyTurn left (Found found) = Unit {0}

-- how much a machine can still do without a selection: twice for each clause that can still be tried, and twice for each open goal and for each search that waits
abbrev pub opens_weight : ℕ → List OpenGoal → ℕ
opens_weight clauses [] = 0
opens_weight clauses (kept ∷ opens) = (2 * (clauses - kept.from) + 2) + opens_weight clauses opens

abbrev pub waiting_weight : ℕ → List Waiting → ℕ
waiting_weight clauses [] = 0
waiting_weight clauses (waiting ∷ around) = (2 + opens_weight clauses waiting.search.opens.items) + waiting_weight clauses around

abbrev pub weight : ℕ → Searches → ℕ
weight clauses searches = opens_weight clauses searches.inner.opens.items + waiting_weight clauses searches.waiting.items

abbrev pub turn_weight : Turn → ℕ
turn_weight (Visit goal) = 2
turn_weight Back = 1
turn_weight (Found found) = 0

-- what is left of some children once the first of them, if there is one, is this
abbrev pub GoOn : List Child → Option code_child.Child → List Child → Type 0
GoOn children None others = children ≡ []
GoOn children (Some child) others = children ≡ child_of child ∷ others

-- a clause is well formed, its body's length fits, and the computed literals of its body can be computed
pub record IsReadyClause (clause : Clause) : Type 0 where
  pub clause_ : IsClause clause
  pub short : length clause.body < 2 ^ 31
  pub computable : AreComputable clause.body

-- what a machine comes to without a selection comes to the whole search
abbrev pub SettledComes : Program → ℕ → ℕ → Searches → Settled → ℕ → Type 0
SettledComes program budget given searches (settled.Goal goal) left = AreUnderWay program budget given searches (Some (goal_of goal)) left
SettledComes program budget given searches (settled.Found found) left = Advances program budget given found left searches

abbrev pub IsReadySettled : ℕ → Settled → Type 0
IsReadySettled left (settled.Goal goal) = IsReady left goal × (0 < length goal.literals.items)
IsReadySettled left (settled.Found found) = Unit {0}

-- where a visit goes on, it took a selection
abbrev pub TakesOne : Turn → ℕ → ℕ → Type 0
TakesOne (Visit goal) left less = less < left
TakesOne Back left less = less < left
TakesOne (Found found) left less = Unit {0}
