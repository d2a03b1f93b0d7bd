-- What is kept of goals, and what holds of it.
use Rattle.std.specs.Prelude.{◌≡◌, ℕ, suc, false, ◌+◌, ◌<◌, ◌≤◌, List, [], ◌∷◌, length, slice_get, take, Option, Some, None}
use Rattle.le_terms.specs.Program.{IsProgram}
use Rattle.le_terms.specs.declared.program.Clause.{Clause}
use Rattle.le_terms.specs.declared.program.Program.{Program}
use Rattle.le_store.specs.Shown as store
use Rattle.le_goals.specs.declared.frames.Source.{Source}
use Rattle.le_goals.specs.declared.frames.Source.TheVariants.{Query, Body}
use Rattle.le_goals.specs.declared.frames.Answers.{Answers}
use Rattle.le_goals.specs.declared.frames.Answers.TheVariants.{Asked, Nothing, Value}
use Rattle.le_goals.specs.declared.frames.Part.{Part}
use Rattle.le_goals.specs.declared.frames.Frame.{Frame}
use Rattle.le_goals.specs.declared.frames.Frame.TheVariants.{Empty, Before}
use Rattle.le_goals.specs.declared.frames.Kept.{Kept}
use Rattle.le_goals.specs.Frames.{literals_in, goals_of}
use Rattle.le_goals.specs.Shown.{Snapshot, Shown}

-- the goals of frames at one moment
abbrev pub snapshot_of : Program → store.Snapshot → List Frame → Snapshot
snapshot_of program cells frames = record { next = length cells.variables; goals = goals_of program cells frames }

-- what they were at each mark, of all frames
abbrev pub snapshots_of : Program → List Frame → List store.Snapshot → List Kept → List Snapshot
snapshots_of program frames [] kept = []
snapshots_of program frames (cells ∷ marks) [] = []
snapshots_of program frames (cells ∷ marks) (one ∷ kept) = snapshot_of program cells (take one.frames frames) ∷ snapshots_of program frames marks kept

abbrev pub shown : Program → store.Shown → List Frame → List Kept → Shown
shown program cells frames kept = record { program = program; now = snapshot_of program cells.now frames; marks = snapshots_of program frames cells.marks kept }

-- how many variables a clause has
abbrev pub clause_vars : Option Clause → ℕ
clause_vars None = 0
clause_vars (Some clause) = clause.vars

-- how many variables a body has
abbrev pub vars_in : Program → Source → ℕ
vars_in program Query = program.vars
vars_in program (Body place) = clause_vars (slice_get program.clauses place)

-- there are so many cells that a body's variables are among them
abbrev pub HasCells : Program → ℕ → Source → ℕ → Type 0
HasCells program cells source base = base + vars_in program source ≤ cells

abbrev pub AreAnswers : Program → ℕ → Answers → Type 0
AreAnswers program cells Asked = program.vars ≤ cells
AreAnswers program cells Nothing = Unit {0}
AreAnswers program cells (Value source base at) = HasCells program cells source base

-- a part of a body
pub record IsPart (program : Program) (cells : ℕ) (part : Part) : Type 0 where
  pub cells_ : HasCells program cells part.source part.base
  pub order : part.from ≤ part.to
  pub within : part.to ≤ length (literals_in program part.source)

-- a frame after so many others
abbrev pub IsFrame : Program → ℕ → ℕ → Frame → Type 0
IsFrame program cells at (Empty answers) = AreAnswers program cells answers
IsFrame program cells at (Before part rest) = IsPart program cells part × (rest < at)

-- each of some frames, the first of them after so many others
abbrev pub AreFrames : Program → ℕ → ℕ → List Frame → Type 0
AreFrames program cells at [] = Unit {0}
AreFrames program cells at (frame ∷ frames) = IsFrame program cells at frame × AreFrames program cells (suc at) frames

-- the marks: the store's are numbered in order, and no mark has more frames than a later one or than there are
abbrev pub AreKept : Program → List Frame → ℕ → ℕ → List store.Snapshot → List Kept → Type 0
AreKept program frames at low [] [] = low ≤ length frames
AreKept program frames at low [] (one ∷ kept) = ⊥
AreKept program frames at low (cells ∷ marks) [] = ⊥
AreKept program frames at low (cells ∷ marks) (one ∷ kept) =
    (one.mark ≡ at) × (low ≤ one.frames) × AreFrames program (length cells.terms) 0 (take one.frames frames) × AreKept program frames (suc at) one.frames marks kept

-- what holds of the parts of goals
pub record IsGoals (program : Program) (cells : store.Shown) (frames : List Frame) (kept : List Kept) : Type 0 where
  pub program_ : IsProgram program
  pub frames_ : AreFrames program (length cells.now.terms) 0 frames
  pub kept_ : AreKept program frames 0 0 cells.marks kept

-- the frames of a query with so many literals
abbrev pub query_frames : ℕ → List Frame
query_frames count = Empty Asked ∷ Before (record { source = Query; base = 0; from = 0; to = count; alone = false }) 0 ∷ []
