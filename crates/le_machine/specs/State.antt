-- What contracts see of a machine.
use Rattle.std.specs.Prelude.{None, false, reverse, ◌≡◌, ℕ, ◌+◌, ◌-◌, ◌≤◌, ◌<◌, ◌≢◌, List, [], length, slice_get, Option, Some, option_map}
use Rattle.le_terms.specs.Tree.{Tree}
use Rattle.le_terms.specs.Variables.{canonical_of}
use Rattle.le_terms.specs.Program.{IsProgram}
use Rattle.le_terms.specs.declared.program.Program.{Program}
use Rattle.le_proofs.specs.declared.next.Next.{Next}
use Rattle.le_proofs.specs.declared.next.Next.TheVariants.{Answer, Done, Floundered, OutOfRange, Spent}
use Rattle.le_proofs.specs.declared.node.Node.{Node}
use Rattle.le_proofs.specs.Derivations.{certificate_of}
use Rattle.le_proofs.specs.Proofs.{Step, Leaf}
use Rattle.le_proofs.specs.SearchTree.{empty_leaf}
use Rattle.le_proofs.specs.UnderWay.{leaf_along}
use Rattle.le_proofs.specs.Search.{search_of, answers_of, end_of, used_of, selections_at, next_of}
use Rattle.le_machine.specs.declared.phase.Phase.{Phase}
use Rattle.le_machine.specs.declared.phase.Phase.TheVariants.{Fresh, Told, Lost}
use Rattle.le_machine.specs.declared.goals.Searches.{Searches}
use Rattle.le_machine.specs.declared.goals.Found.{Found}
use Rattle.le_machine.specs.declared.goals.Found.TheVariants.{Leaf as Found_leaf, End}
use Rattle.le_machine.specs.Keeping.{IsUnderWay, AreReady}
use Rattle.le_derivations.specs.Paths.{AreSteps}
use Rattle.le_index.specs.declared.index.Index.{Index}
use Rattle.le_index.specs.Listing.{IsIndexOf}

-- a machine as contracts see it: its program and budget, how many answers it gave, and what its calls of `next` answered
pub record Shown : Type 0 where
  pub program : Program
  pub budget : ℕ
  pub given : ℕ
  pub phase : Phase

-- a machine that was made and not asked yet
abbrev pub started : Program → ℕ → Shown
started program budget = record { program = program; budget = budget; given = 0; phase = Fresh }

-- what a machine that didn't run out of memory answers next
abbrev pub next_answer : Shown → Next
next_answer shown = next_of shown.program shown.budget shown.given

-- how many answers were given after such a one
abbrev pub given_after : Next → ℕ → ℕ
given_after Answer given = given + 1
given_after Done given = given
given_after (Floundered line) given = given
given_after (OutOfRange line) given = given
given_after Spent given = given

-- a machine after its next answer
abbrev pub told : Shown → Shown
told shown = record { program = shown.program; budget = shown.budget; given = given_after (next_answer shown) shown.given; phase = Told (next_answer shown) }

-- a machine that ran out of memory
abbrev pub lost : Shown → Shown
lost shown = record { program = shown.program; budget = shown.budget; given = shown.given; phase = Lost }

-- the success leaf that the last answer is
abbrev pub last_leaf : Shown → Option Leaf
last_leaf shown = slice_get (answers_of shown.program shown.budget) (shown.given - 1)

-- the values of the last answer: its terms, with their variables numbered from 1 by first occurrence
abbrev pub last_values : Shown → Option (List Tree)
last_values shown = option_map (λ leaf. canonical_of leaf.terms) (last_leaf shown)

-- the derivation of the last answer
abbrev pub last_derivation : Shown → Option (List Node)
last_derivation shown = option_map (λ leaf. (certificate_of leaf).nodes) (last_leaf shown)

-- how many selections were made up to what the last call of `next` answered: none before the first, and where memory ran out nothing is said
abbrev pub Selections : Shown → Phase → ℕ → Type 0
Selections shown Fresh n = n ≡ 0
Selections shown (Told Answer) n = selections_at shown.program shown.budget (shown.given - 1) ≡ Some n
Selections shown (Told Done) n = n ≡ used_of shown.program shown.budget
Selections shown (Told (Floundered line)) n = n ≡ used_of shown.program shown.budget
Selections shown (Told (OutOfRange line)) n = n ≡ used_of shown.program shown.budget
Selections shown (Told Spent) n = n ≡ used_of shown.program shown.budget
Selections shown Lost n = Unit {0}

-- a machine that gave a leaf with these terms: the steps that are kept lead to it, and the search goes on after it
pub record IsAtLeaf (program : Program) (budget given left : ℕ) (searches : Searches) (terms : List Tree) : Type 0 where
  pub alone : searches.waiting.items ≡ []
  pub way : IsUnderWay program budget given [] searches.inner None left
  pub steps : List Step
  pub steps_ : AreSteps (reverse searches.inner.path.items) steps
  pub place : slice_get (answers_of program budget) (given - 1) ≡ Some (leaf_along steps (empty_leaf terms left))

-- the machine gave the end
pub record IsAtEnd (program : Program) (budget given left : ℕ) (next : Next) : Type 0 where
  pub count : length (answers_of program budget) ≡ given
  pub ending : end_of program budget ≡ next
  pub selections : (search_of program budget).left ≡ left

-- what holds of the parts of a machine that gave this
abbrev pub StandsAt : Next → Program → ℕ → ℕ → ℕ → Searches → List Tree → Type 0
StandsAt Answer program budget given left searches terms = IsAtLeaf program budget given left searches terms
StandsAt Done program budget given left searches terms = IsAtEnd program budget given left Done
StandsAt (Floundered line) program budget given left searches terms = IsAtEnd program budget given left (Floundered line)
StandsAt (OutOfRange line) program budget given left searches terms = IsAtEnd program budget given left (OutOfRange line)
StandsAt Spent program budget given left searches terms = IsAtEnd program budget given left Spent

-- nothing is kept
abbrev pub IsEmpty : Searches → Type 0
IsEmpty searches = (searches.waiting.items ≡ []) × (searches.inner.opens.items ≡ []) × (searches.inner.path.items ≡ []) × (searches.inner.keeps ≡ false)

-- what holds of the parts of a machine
abbrev pub Stands : Phase → Program → ℕ → ℕ → ℕ → Searches → List Tree → Type 0
Stands Fresh program budget given left searches terms = (given ≡ 0) × (left ≡ budget) × IsEmpty searches
Stands (Told next) program budget given left searches terms = StandsAt next program budget given left searches terms
Stands Lost program budget given left searches terms = Unit {0}

-- a search can be asked for its next answer: its open goals are ready
abbrev pub CanAdvanceAfter : Next → ℕ → Searches → Type 0
CanAdvanceAfter Answer left searches = AreReady left searches
CanAdvanceAfter Done left searches = Unit {0}
CanAdvanceAfter (Floundered line) left searches = Unit {0}
CanAdvanceAfter (OutOfRange line) left searches = Unit {0}
CanAdvanceAfter Spent left searches = Unit {0}

abbrev pub CanAdvance : Phase → ℕ → Searches → Type 0
CanAdvance Fresh left searches = (left ≤ 1000000) × IsEmpty searches
CanAdvance (Told next) left searches = CanAdvanceAfter next left searches
CanAdvance Lost left searches = Unit {0}

-- a machine's program and budget are well formed, its index is that of the program's clauses, and its parts stand so
pub record IsMachine (program : Program) (index : Index) (budget given : ℕ) (phase : Phase) (left : ℕ) (searches : Searches) (terms : List Tree) : Type 0 where
  pub program_ : IsProgram program
  pub index_ : IsIndexOf index program.clauses
  pub small : budget ≤ 1000000
  pub fits : left ≤ budget
  pub stands : Stands phase program budget given left searches terms
  pub advances : CanAdvance phase left searches

-- what a search that is asked for its next answer finds: a leaf more, or the end
abbrev pub Advances : Program → ℕ → ℕ → Found → ℕ → Searches → Type 0
Advances program budget given (Found_leaf terms) left searches = (given < length (answers_of program budget)) × IsAtLeaf program budget (given + 1) left searches terms.items
Advances program budget given (End next) left searches = (next ≢ Answer) × IsAtEnd program budget given left next

-- after a leaf the search can go on
abbrev pub AdvancesFor : Found → ℕ → Searches → Type 0
AdvancesFor (Found_leaf terms) left searches = AreReady left searches
AdvancesFor (End next) left searches = Unit {0}
