-- Where a literal stands in the frames of a goal, and what the goal is with other literals in its place.
use Rattle.std.specs.Prelude.{◌≡◌, ℕ, ◌+◌, ◌-◌, ◌<◌, ◌≤◌, List, [], ◌∷◌, ◌++◌, length, get_or, slice_get, take, drop, Option, Some, None, Bool, true, false}
use Rattle.std.specs.List.{AllByRecursion}
use Rattle.le_terms.specs.declared.program.Form.{Form}
use Rattle.le_terms.specs.declared.program.Form.TheVariants.{Pos, Neg, Calc, Gather}
use Rattle.le_terms.specs.declared.program.Literal.{Literal}
use Rattle.le_terms.specs.declared.program.Program.{Program}
use Rattle.le_goals.specs.declared.frames.Source.{Source}
use Rattle.le_goals.specs.declared.frames.Answers.{Answers}
use Rattle.le_goals.specs.declared.frames.Answers.TheVariants.{Nothing, Value}
use Rattle.le_goals.specs.declared.frames.Part.{Part}
use Rattle.le_goals.specs.declared.frames.Frame.{Frame}
use Rattle.le_goals.specs.declared.frames.Spot.{Spot}
use Rattle.le_goals.specs.declared.frames.Walk.{Walk}
use Rattle.le_goals.specs.Frames.{Based, Laid, nothing_laid, literals_in, part_of, before, laid_from}
use Rattle.le_goals.specs.State.{IsPart, AreFrames}

-- frames of some program
abbrev pub AreAnyFrames : List Frame → Type 0
AreAnyFrames frames = (program : Program) × (cells : ℕ) × AreFrames program cells 0 frames

-- what the frame of a number is
abbrev pub laid_at : Program → List Frame → ℕ → Laid
laid_at program frames number = get_or (laid_from program [] frames) number nothing_laid

-- parts one after another before a goal
abbrev pub before_all : Program → List Part → Laid → Laid
before_all program [] laid = laid
before_all program (part ∷ parts) laid = before (part_of program part) (before_all program parts laid)

-- how many literals parts have
abbrev pub literal_count : List Part → ℕ
literal_count [] = 0
literal_count (part ∷ parts) = (part.to - part.from) + literal_count parts

-- the literals of a part up to one of them, and from after it on
abbrev pub part_up_to : Part → ℕ → Part
part_up_to part left = record { source = part.source; base = part.base; from = part.from; to = part.from + left; alone = part.alone }

abbrev pub part_behind : Part → ℕ → Part
part_behind part left = record { source = part.source; base = part.base; from = part.from + left + 1; to = part.to; alone = part.alone }

-- a goal's literal at a place stands so far after the beginning of a part, that comes after these parts
pub record StandsIn (program : Program) (cells : ℕ) (frames : List Frame) (goal place : ℕ) (passed : List Part) (spot : Spot) : Type 0 where
  pub passed_ : AllByRecursion (IsPart program cells) passed
  pub part : IsPart program cells spot.part
  pub rest : spot.rest < length frames
  pub left : spot.left < spot.part.to - spot.part.from
  pub place_ : literal_count passed + spot.left ≡ place
  pub laid : laid_at program frames goal ≡ before_all program passed (before (part_of program spot.part) (laid_at program frames spot.rest))

-- a goal has a literal at a place, or it hasn't
abbrev pub Finds : Program → ℕ → List Frame → ℕ → ℕ → Option Walk → Type 0
Finds program cells frames goal place None = length (laid_at program frames goal).literals ≤ place
Finds program cells frames goal place (Some walk) = StandsIn program cells frames goal place walk.passed.items walk.spot

-- the same without the parts that come before
abbrev pub FindsSpot : Program → ℕ → List Frame → ℕ → ℕ → Option Spot → Type 0
FindsSpot program cells frames goal place None = length (laid_at program frames goal).literals ≤ place
FindsSpot program cells frames goal place (Some spot) = (passed : List Part) × StandsIn program cells frames goal place passed spot

-- frames with others after them
pub record Grows (program : Program) (cells : ℕ) (old new : List Frame) : Type 0 where
  pub fits : AreFrames program cells 0 new
  pub more : List Frame
  pub front : new ≡ old ++ more

-- among them this goal
pub record Puts (program : Program) (cells : ℕ) (old new : List Frame) (number : ℕ) (laid : Laid) : Type 0 where
  pub there : number < length new
  pub laid_ : laid_at program new number ≡ laid

-- a goal with other literals in the place of one
abbrev pub put_at : ℕ → List Based → Laid → Laid
put_at place new laid = record { literals = take place laid.literals ++ (new ++ drop (place + 1) laid.literals); answers = laid.answers }

-- the literals of a part, if there is one
abbrev pub part_literals : Program → Option Part → List Based
part_literals program None = []
part_literals program (Some part) = part_of program part

abbrev pub IsPartIfAny : Program → ℕ → Option Part → Type 0
IsPartIfAny program cells None = Unit {0}
IsPartIfAny program cells (Some part) = IsPart program cells part

-- the terms that the answers to the atom of a literal of a part are asked for
abbrev pub answers_for : Bool → Form → Source → ℕ → ℕ → Answers
answers_for true form source base at = Nothing
answers_for false (Pos atom) source base at = Nothing
answers_for false (Neg atom) source base at = Nothing
answers_for false (Calc atom) source base at = Nothing
answers_for false (Gather fold result value atom) source base at = Value source base at

abbrev pub sub_answers : Literal → Part → ℕ → Answers
sub_answers literal part at = answers_for part.alone literal.form part.source part.base at

-- the atom of one literal of a part
abbrev pub one_part : Part → ℕ → Part
one_part part at = record { source = part.source; base = part.base; from = at; to = at + 1; alone = true }

-- among frames, the goal of the atom of a goal's literal alone
pub record PutsSub (program : Program) (cells : ℕ) (old new : List Frame) (goal place number : ℕ) : Type 0 where
  pub there : number < length new
  pub passed : List Part
  pub spot : Spot
  pub stands : StandsIn program cells old goal place passed spot
  pub literal : Literal
  pub literal_ : slice_get (literals_in program spot.part.source) (spot.part.from + spot.left) ≡ Some literal
  pub laid_ : laid_at program new number ≡ before (part_of program (one_part spot.part (spot.part.from + spot.left))) (record { literals = []; answers = sub_answers literal spot.part (spot.part.from + spot.left) })
