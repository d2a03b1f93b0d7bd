-- The answer of a goal, which stands in its last frame.
use Rattle.std.specs.Prelude.{◌≡◌, ℕ, List}
use Rattle.le_terms.specs.declared.program.Program.{Program}
use Rattle.le_goals.specs.declared.frames.Answers.{Answers}
use Rattle.le_goals.specs.declared.frames.Frame.{Frame}
use Rattle.le_goals.specs.State.{AreAnswers}
use Rattle.le_goals.specs.Parting.{laid_at}

-- a goal has this answer, whose variables are among so many cells
pub record HasAnswers (program : Program) (cells : ℕ) (frames : List Frame) (goal : ℕ) (answers : Answers) : Type 0 where
  pub laid : (laid_at program frames goal).answers ≡ answers
  pub fits : AreAnswers program cells answers
