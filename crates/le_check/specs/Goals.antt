-- Goals of a replay as they are kept, and what becomes of them.
use Rattle.std.specs.Prelude.{◌≡◌, ℕ, ◌+◌, ◌<◌, List, take, drop, get_or, length, Some}
use Rattle.std.specs.List.{AllByRecursion}
use Rattle.std.specs.Prelude.{slice_get}
use Rattle.le_terms.specs.Program.{predefined_arities}
use Rattle.le_terms.specs.declared.program.Atom.{Atom}
use Rattle.le_terms.specs.declared.program.Form.{Form}
use Rattle.le_terms.specs.declared.program.Form.TheVariants.{Pos, Neg, Calc, Gather}
use Rattle.le_terms.specs.declared.program.Literal.{Literal}
use Rattle.le_proofs.specs.Goals.{Goal, Picked, selected}
use Rattle.le_proofs.specs.Replay.{or_first}
use Rattle.le_proofs.specs.Search as search
use Rattle.le_check.specs.declared.goal.Goal as code
use Rattle.le_check.specs.declared.goal.Outcome.{Outcome}
use Rattle.le_check.specs.declared.goal.Outcome.TheVariants.{GoesOn, Fails, Ends}

-- a goal as it is kept as the goal that it is
abbrev pub goal_of : code.Goal → Goal
goal_of goal = record { next = goal.next; literals = goal.literals.items; terms = goal.terms.items }

-- a literal at a place of some literals, with those before it and those after it
abbrev pub placed : List Literal → ℕ → Literal → Picked Literal
placed literals place literal = record { before = take place literals; chosen = literal; behind = drop (place + 1) literals }

-- the literal at a place is the one that is selected, or the first where none can be
abbrev pub Chooses : ℕ → List Literal → ℕ → Type 0
Chooses version literals place = (literal : Literal) → literal ≡ get_or literals place literal → or_first literals (selected version literals) ≡ Some (placed literals place literal)

-- what becomes of a literal, as it is kept
abbrev pub IsOutcome : Outcome → search.Outcome → Type 0
IsOutcome (GoesOn subst) outcome = outcome ≡ search.goes_on subst
IsOutcome Fails outcome = outcome ≡ search.fails
IsOutcome Ends outcome = (ending : _) × (outcome ≡ search.ends ending)

-- a computed atom's predicate is a computed one, with its number of arguments
abbrev pub CanCompute : Atom → Type 0
CanCompute atom = (atom.pred < 18) × (slice_get predefined_arities atom.pred ≡ Some (length atom.args))

-- a computed literal can be computed
abbrev pub IsComputable : Form → Type 0
IsComputable (Pos atom) = Unit {0}
IsComputable (Neg atom) = Unit {0}
IsComputable (Calc atom) = CanCompute atom
IsComputable (Gather fold result value atom) = Unit {0}

abbrev pub AreComputable : List Literal → Type 0
AreComputable literals = AllByRecursion (λ literal. IsComputable literal.form) literals
