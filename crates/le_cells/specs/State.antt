-- What contracts see of a machine.
use Rattle.std.specs.Prelude.{None, false, reverse, ◌≡◌, ℕ, ◌+◌, ◌-◌, ◌≤◌, ◌<◌, ◌≢◌, List, [], length, slice_get, Option, Some, option_map}
use Rattle.le_terms.specs.Tree.{Tree}
use Rattle.le_terms.specs.Variables.{canonical_of}
use Rattle.le_terms.specs.Program.{IsProgram}
use Rattle.le_terms.specs.declared.program.Program.{Program}
use Rattle.le_proofs.specs.declared.next.Next.{Next}
use Rattle.le_proofs.specs.declared.next.Next.TheVariants.{Answer, Done, Floundered, OutOfRange, Spent}
use Rattle.le_proofs.specs.declared.node.Node.{Node}
use Rattle.le_proofs.specs.Derivations.{certificate_of}
use Rattle.le_proofs.specs.Proofs.{Step, Leaf}
use Rattle.le_proofs.specs.Goals.{root_of}
use Rattle.le_proofs.specs.SearchTree.{empty_leaf}
use Rattle.le_proofs.specs.UnderWay.{leaf_along}
use Rattle.le_proofs.specs.Search.{search_of, answers_of, end_of, used_of, selections_at, next_of}
use Rattle.le_cells.specs.declared.phase.Phase.{Phase}
use Rattle.le_cells.specs.declared.phase.Phase.TheVariants.{Fresh, Told, Lost}
use Rattle.le_cells.specs.declared.goals.Searches.{Searches}
use Rattle.le_cells.specs.declared.goals.Found.{Found}
use Rattle.le_cells.specs.declared.goals.Found.TheVariants.{Leaf as Found_leaf, End}
use Rattle.le_cells.specs.Keeping.{goal_now, IsUnderWay, AreReady}
use Rattle.le_goals.specs.Shown.{Shown as Cells}
use Rattle.le_paths.specs.Paths.{LeadHere}
use Rattle.le_index.specs.declared.index.Index.{Index}
use Rattle.le_index.specs.Listing.{IsIndexOf}

-- a machine as contracts see it: its program and budget, how many answers it gave, and what its calls of `next` answered
pub record Shown : Type 0 where
  pub program : Program
  pub budget : ℕ
  pub given : ℕ
  pub phase : Phase

-- a machine that was made and not asked yet
abbrev pub started : Program → ℕ → Shown
started program budget = record { program = program; budget = budget; given = 0; phase = Fresh }

-- what a machine that didn't run out of memory answers next
abbrev pub next_answer : Shown → Next
next_answer shown = next_of shown.program shown.budget shown.given

-- how many answers were given after such a one
abbrev pub given_after : Next → ℕ → ℕ
given_after Answer given = given + 1
given_after Done given = given
given_after (Floundered line) given = given
given_after (OutOfRange line) given = given
given_after Spent given = given

-- a machine after its next answer
abbrev pub told : Shown → Shown
told shown = record { program = shown.program; budget = shown.budget; given = given_after (next_answer shown) shown.given; phase = Told (next_answer shown) }

-- a machine that ran out of memory
abbrev pub lost : Shown → Shown
lost shown = record { program = shown.program; budget = shown.budget; given = shown.given; phase = Lost }

-- the success leaf that the last answer is
abbrev pub last_leaf : Shown → Option Leaf
last_leaf shown = slice_get (answers_of shown.program shown.budget) (shown.given - 1)

-- the values of the last answer: its terms, with their variables numbered from 1 by first occurrence
abbrev pub last_values : Shown → Option (List Tree)
last_values shown = option_map (λ leaf. canonical_of leaf.terms) (last_leaf shown)

-- the derivation of the last answer
abbrev pub last_derivation : Shown → Option (List Node)
last_derivation shown = option_map (λ leaf. (certificate_of leaf).nodes) (last_leaf shown)

-- how many selections were made up to what the last call of `next` answered: none before the first, and where memory ran out nothing is said
abbrev pub Selections : Shown → Phase → ℕ → Type 0
Selections shown Fresh n = n ≡ 0
Selections shown (Told Answer) n = selections_at shown.program shown.budget (shown.given - 1) ≡ Some n
Selections shown (Told Done) n = n ≡ used_of shown.program shown.budget
Selections shown (Told (Floundered line)) n = n ≡ used_of shown.program shown.budget
Selections shown (Told (OutOfRange line)) n = n ≡ used_of shown.program shown.budget
Selections shown (Told Spent) n = n ≡ used_of shown.program shown.budget
Selections shown Lost n = Unit {0}

-- a machine that gave the leaf whose goal has this number: the steps that are kept lead to it, and the search goes on after it
pub record IsAtLeaf (program : Program) (budget given left : ℕ) (cells : Cells) (searches : Searches) (leaf : ℕ) : Type 0 where
  pub alone : searches.waiting.items ≡ []
  pub way : IsUnderWay program budget given cells [] searches.inner None left
  pub steps : List Step
  pub steps_ : LeadHere cells.now (reverse searches.inner.path.items) steps
  pub place : slice_get (answers_of program budget) (given - 1) ≡ Some (leaf_along steps (empty_leaf (goal_now cells leaf).terms left))

-- the machine gave the end
pub record IsAtEnd (program : Program) (budget given left : ℕ) (next : Next) : Type 0 where
  pub count : length (answers_of program budget) ≡ given
  pub ending : end_of program budget ≡ next
  pub selections : (search_of program budget).left ≡ left

-- what holds of the parts of a machine that gave this
abbrev pub StandsAt : Next → Program → ℕ → ℕ → ℕ → Cells → Searches → ℕ → Type 0
StandsAt Answer program budget given left cells searches leaf = IsAtLeaf program budget given left cells searches leaf
StandsAt Done program budget given left cells searches leaf = IsAtEnd program budget given left Done
StandsAt (Floundered line) program budget given left cells searches leaf = IsAtEnd program budget given left (Floundered line)
StandsAt (OutOfRange line) program budget given left cells searches leaf = IsAtEnd program budget given left (OutOfRange line)
StandsAt Spent program budget given left cells searches leaf = IsAtEnd program budget given left Spent

-- nothing was visited: the goal of number 1 is the query's
pub record IsFresh (program : Program) (cells : Cells) (searches : Searches) : Type 0 where
  pub query : slice_get cells.now.goals 1 ≡ Some (root_of program)
  pub next_ : cells.now.next ≡ program.vars
  pub alone : searches.waiting.items ≡ []
  pub opens_ : searches.inner.opens.items ≡ []
  pub path_ : searches.inner.path.items ≡ []
  pub keeps_ : searches.inner.keeps ≡ false

-- what holds of the parts of a machine
abbrev pub Stands : Phase → Program → ℕ → ℕ → ℕ → Cells → Searches → ℕ → Type 0
Stands Fresh program budget given left cells searches leaf = (given ≡ 0) × (left ≡ budget) × IsFresh program cells searches
Stands (Told next) program budget given left cells searches leaf = StandsAt next program budget given left cells searches leaf
Stands Lost program budget given left cells searches leaf = Unit {0}

-- a search can be asked for its next answer: its open goals are ready
abbrev pub CanAdvanceAfter : Next → ℕ → Cells → Searches → Type 0
CanAdvanceAfter Answer left cells searches = AreReady left cells.marks searches
CanAdvanceAfter Done left cells searches = Unit {0}
CanAdvanceAfter (Floundered line) left cells searches = Unit {0}
CanAdvanceAfter (OutOfRange line) left cells searches = Unit {0}
CanAdvanceAfter Spent left cells searches = Unit {0}

abbrev pub CanAdvance : Phase → Program → ℕ → Cells → Searches → Type 0
CanAdvance Fresh program left cells searches = (left ≤ 1000000) × IsFresh program cells searches
CanAdvance (Told next) program left cells searches = CanAdvanceAfter next left cells searches
CanAdvance Lost program left cells searches = Unit {0}

-- a machine's program and budget are well formed, its index and its goals are those of the program, and its parts stand so
pub record IsMachine (program : Program) (index : Index) (budget given : ℕ) (phase : Phase) (left : ℕ) (cells : Cells) (searches : Searches) (leaf : ℕ) : Type 0 where
  pub program_ : IsProgram program
  pub index_ : IsIndexOf index program.clauses
  pub cells_ : cells.program ≡ program
  pub small : budget ≤ 1000000
  pub fits : left ≤ budget
  pub stands : Stands phase program budget given left cells searches leaf
  pub advances : CanAdvance phase program left cells searches

-- what a search that is asked for its next answer finds: a leaf more, or the end
abbrev pub Advances : Program → ℕ → ℕ → Found → ℕ → Cells → Searches → Type 0
Advances program budget given (Found_leaf leaf) left cells searches = (given < length (answers_of program budget)) × IsAtLeaf program budget (given + 1) left cells searches leaf
Advances program budget given (End next) left cells searches = (next ≢ Answer) × IsAtEnd program budget given left next

-- after a leaf the search can go on
abbrev pub AdvancesFor : Found → ℕ → Cells → Searches → Type 0
AdvancesFor (Found_leaf leaf) left cells searches = AreReady left cells.marks searches
AdvancesFor (End next) left cells searches = Unit {0}
