-- Goals as frames over the cells of a store: each frame is some literals of a body, their variables from a cell on, before the goal of an earlier frame. No literal is copied (Boyer and Moore, The sharing of structure in theorem proving programs, 1972); the terms are those of the cells.
use Rattle.std.specs.Prelude.{ℕ, ◌+◌, ◌-◌, Bool, true, false, List, [], ◌∷◌, ◌++◌, length, map, get_or, slice_get, take, drop, Option, Some, None}
use Rattle.le_terms.specs.Tree.{Tree, nil}
use Rattle.le_terms.specs.Variables.{replaced}
use Rattle.le_terms.specs.Program.{form_atom}
use Rattle.le_terms.specs.declared.program.Clause.{Clause}
use Rattle.le_terms.specs.declared.program.Form.{Form}
use Rattle.le_terms.specs.declared.program.Form.TheVariants.{Pos, Neg, Calc, Gather}
use Rattle.le_terms.specs.declared.program.Literal.{Literal}
use Rattle.le_terms.specs.declared.program.Program.{Program}
use Rattle.le_store.specs.Shown as store
use Rattle.le_store.specs.Shown.{term_in}
use Rattle.le_proofs.specs.Goals.{Goal, literal_under}
use Rattle.le_goals.specs.declared.frames.Source.{Source}
use Rattle.le_goals.specs.declared.frames.Source.TheVariants.{Query, Body}
use Rattle.le_goals.specs.declared.frames.Part.{Part}
use Rattle.le_goals.specs.declared.frames.Answers.{Answers}
use Rattle.le_goals.specs.declared.frames.Answers.TheVariants.{Asked, Nothing, Value}
use Rattle.le_goals.specs.declared.frames.Frame.{Frame}
use Rattle.le_goals.specs.declared.frames.Frame.TheVariants.{Empty, Before}

-- a literal of a program, whose variable v is the cell `base` + v
pub record Based : Type 0 where
  pub literal : Literal
  pub base : ℕ

-- the literals of a goal, and the terms of its answer
pub record Laid : Type 0 where
  pub literals : List Based
  pub answers : Answers

abbrev pub body_of : Option Clause → List Literal
body_of None = []
body_of (Some clause) = clause.body

-- the literals of the query, or of a clause's body
abbrev pub literals_in : Program → Source → List Literal
literals_in program Query = program.query
literals_in program (Body place) = body_of (slice_get program.clauses place)

-- the atom of a literal alone
abbrev pub alone : Literal → Literal
alone literal = record { line = literal.line; form = Pos (form_atom literal.form) }

abbrev pub shaped : Bool → Literal → Literal
shaped true literal = alone literal
shaped false literal = literal

abbrev pub based : Part → Literal → Based
based part literal = record { literal = shaped part.alone literal; base = part.base }

-- the literals of a part
abbrev pub part_of : Program → Part → List Based
part_of program part = map (based part) (take (part.to - part.from) (drop part.from (literals_in program part.source)))

abbrev pub nothing_laid : Laid
nothing_laid = record { literals = []; answers = Nothing }

-- some literals before those of a goal
abbrev pub before : List Based → Laid → Laid
before literals laid = record { literals = literals ++ laid.literals; answers = laid.answers }

-- what a frame is after frames that are these
abbrev pub laid_after : Program → List Laid → Frame → Laid
laid_after program laid (Empty answers) = record { literals = []; answers = answers }
laid_after program laid (Before part rest) = before (part_of program part) (get_or laid rest nothing_laid)

-- what frames are, after frames that are these
abbrev pub laid_from : Program → List Laid → List Frame → List Laid
laid_from program laid [] = laid
laid_from program laid (frame ∷ frames) = laid_from program (laid ++ laid_after program laid frame ∷ []) frames

-- the term of the cell of a variable
abbrev pub cell_term : store.Snapshot → ℕ → ℕ → Tree
cell_term cells base v = term_in cells (base + v)

-- a literal as its cells show it
abbrev pub read : store.Snapshot → Based → Literal
read cells one = literal_under (cell_term cells one.base) one.literal

-- the value of a gather
abbrev pub form_value : Form → Tree
form_value (Pos atom) = nil
form_value (Neg atom) = nil
form_value (Calc atom) = nil
form_value (Gather fold result value atom) = value

abbrev pub value_in : Option Literal → Tree
value_in None = nil
value_in (Some literal) = form_value literal.form

-- the terms of an answer as the cells show them
abbrev pub answer_terms : Program → store.Snapshot → Answers → List Tree
answer_terms program cells Asked = map (λ one. term_in cells one.var) program.asked
answer_terms program cells Nothing = []
answer_terms program cells (Value source base at) = replaced (cell_term cells base) (value_in (slice_get (literals_in program source) at)) ∷ []

-- a goal as its cells show it
abbrev pub goal_of : Program → store.Snapshot → Laid → Goal
goal_of program cells laid = record {
  next = length cells.variables;
  literals = map (read cells) laid.literals;
  terms = answer_terms program cells laid.answers;
}

-- the goals of frames as the cells show them
abbrev pub goals_of : Program → store.Snapshot → List Frame → List Goal
goals_of program cells frames = map (goal_of program cells) (laid_from program [] frames)
