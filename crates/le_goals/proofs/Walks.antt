-- A walk along the frames of a goal.
use Rattle.std.proofs.Common.{◌≡◌, ℕ, ◌+◌, ◌-◌, ◌<◌, ◌≤◌, List, [], ◌∷◌, ◌++◌, length, get_or, refl, sym, ap, subst, ◌∙◌, length-append, arith}
use Rattle.std.specs.List.{AllByRecursion}
use Rattle.le_terms.specs.declared.program.Program.{Program}
use Rattle.le_goals.specs.declared.frames.Answers.{Answers}
use Rattle.le_goals.specs.declared.frames.Part.{Part}
use Rattle.le_goals.specs.declared.frames.Frame.{Frame}
use Rattle.le_goals.specs.declared.frames.Frame.TheVariants.{Empty, Before}
use Rattle.le_goals.specs.Frames.{Laid, part_of, before}
use Rattle.le_goals.specs.State.{IsPart, AreFrames}
use Rattle.le_goals.specs.Parting.{AreAnyFrames, laid_at, before_all, literal_count, StandsIn}
use Rattle.le_goals.proofs.Parts.{length-part, before_all-push, count-push, all-push, frame-laid, frame-fits}

module _ (frames : List Frame) (at : ℕ) (low : at < length frames) (default : Frame) where
  module _ (part : Part) (rest : ℕ) (is : get_or frames at default ≡ Before part rest) where
    pub frame-before : (program : Program) (cells : ℕ) → AreFrames program cells 0 frames → IsPart program cells part × (rest < at)
    frame-before program cells fits = frame-fits program cells frames at (Before part rest) default fits low (sym is)

    pub order : AreAnyFrames frames → part.from ≤ part.to
    order any = (frame-before any.0 any.1 any.2).0.order

    pub smaller : AreAnyFrames frames → rest < at
    smaller any = (frame-before any.0 any.1 any.2).1

    pub laid-before : (program : Program) (cells : ℕ) → AreFrames program cells 0 frames → laid_at program frames at ≡ before (part_of program part) (laid_at program frames rest)
    laid-before program cells fits = frame-laid program cells frames at (Before part rest) default fits low (sym is)

    pub found : (program : Program) (cells goal place left : ℕ) (passed : List Part) → AreFrames program cells 0 frames → laid_at program frames goal ≡ before_all program passed (laid_at program frames at) → AllByRecursion (IsPart program cells) passed
        → literal_count passed + left ≡ place → left < part.to - part.from → StandsIn program cells frames goal place passed (record { part = part; left = left; rest = rest })
    found program cells goal place left passed fits stands passed_ place_ less = record {
      passed_ = passed_;
      part = (frame-before program cells fits).0;
      rest = let lower : rest < at = (frame-before program cells fits).1 in omega (arith, lower, low);
      left = less;
      place_ = place_;
      laid = stands ∙ ap (before_all program passed) (laid-before program cells fits);
    }

    pub passed-one : (program : Program) (cells goal : ℕ) (passed new : List Part) → AreFrames program cells 0 frames → laid_at program frames goal ≡ before_all program passed (laid_at program frames at) → new ≡ passed ++ part ∷ []
        → laid_at program frames goal ≡ before_all program new (laid_at program frames rest)
    passed-one program cells goal passed new fits stands pushed =
        stands
        ∙ (ap (before_all program passed) (laid-before program cells fits)
        ∙ (sym (before_all-push program passed part (laid_at program frames rest))
        ∙ ap (λ ps. before_all program ps (laid_at program frames rest)) (sym pushed)))

    pub passed-parts : (program : Program) (cells : ℕ) (passed new : List Part) → AreFrames program cells 0 frames → AllByRecursion (IsPart program cells) passed → new ≡ passed ++ part ∷ [] → AllByRecursion (IsPart program cells) new
    passed-parts program cells passed new fits are pushed = subst (AllByRecursion (IsPart program cells)) (sym pushed) (all-push (IsPart program cells) passed part are (frame-before program cells fits).0)

    pub passed-count : (passed new : List Part) (left place : ℕ) → literal_count passed + left ≡ place → new ≡ passed ++ part ∷ [] → part.to - part.from ≤ left → literal_count new + (left - (part.to - part.from)) ≡ place
    passed-count passed new left place place_ pushed high =
        let count : literal_count new ≡ literal_count passed + (part.to - part.from) = ap literal_count pushed ∙ count-push passed part in
        omega (arith, count, place_, high)

  -- the literals of parts before a goal
  pub length-before_all : (program : Program) (cells : ℕ) (passed : List Part) (laid : Laid) → AllByRecursion (IsPart program cells) passed → length (before_all program passed laid).literals ≡ literal_count passed + length laid.literals
  length-before_all program cells [] laid are = omega arith
  length-before_all program cells (part ∷ passed) laid are =
      let one : length (part_of program part) ≡ part.to - part.from = length-part program cells part are.0 in
      let rest : length (before_all program passed laid).literals ≡ literal_count passed + length laid.literals = length-before_all program cells passed laid are.1 in
      let both : length (part_of program part ++ (before_all program passed laid).literals) ≡ length (part_of program part) + length (before_all program passed laid).literals = length-append (part_of program part) (before_all program passed laid).literals in
      omega (arith, one, rest, both)

  -- a goal that ends before a place
  pub ends : (answers : Answers) → get_or frames at default ≡ Empty answers → (program : Program) (cells goal place left : ℕ) (passed : List Part) → AreFrames program cells 0 frames
      → laid_at program frames goal ≡ before_all program passed (laid_at program frames at) → AllByRecursion (IsPart program cells) passed → literal_count passed + left ≡ place → length (laid_at program frames goal).literals ≤ place
  ends answers is program cells goal place left passed fits stands are place_ =
      let empty : laid_at program frames at ≡ record { literals = []; answers = answers } = frame-laid program cells frames at (Empty answers) default fits low (sym is) in
      let none : length (laid_at program frames at).literals ≡ 0 = ap (λ (l : Laid). length l.literals) empty in
      let all : length (laid_at program frames goal).literals ≡ length (before_all program passed (laid_at program frames at)).literals = ap (λ (l : Laid). length l.literals) stands in
      let count : length (before_all program passed (laid_at program frames at)).literals ≡ literal_count passed + length (laid_at program frames at).literals = length-before_all program cells passed (laid_at program frames at) are in
      omega (arith, none, all, count, place_)

-- parts that were passed on the way from a goal to a frame, where so many literals are left to a place
pub record Passes (frames : List Frame) (goal place at left : ℕ) : Type 0 where
  pub parts : List Part
  pub stands : (program : Program) (cells : ℕ) → AreFrames program cells 0 frames → laid_at program frames goal ≡ before_all program parts (laid_at program frames at)
  pub are : (program : Program) (cells : ℕ) → AreFrames program cells 0 frames → AllByRecursion (IsPart program cells) parts
  pub count : literal_count parts + left ≡ place

pub passes-none : (frames : List Frame) (goal place : ℕ) → Passes frames goal place goal place
passes-none frames goal place = record { parts = []; stands = λ program cells fits. refl; are = λ program cells fits. tt; count = omega arith }

pub passes-one : (frames : List Frame) (at : ℕ) (low : at < length frames) (default : Frame) (part : Part) (rest : ℕ) (is : get_or frames at default ≡ Before part rest) (goal place left : ℕ) → Passes frames goal place at left → part.to - part.from ≤ left
    → Passes frames goal place rest (left - (part.to - part.from))
passes-one frames at low default part rest is goal place left passes high = record {
  parts = passes.parts ++ part ∷ [];
  stands = λ program cells fits. passed-one frames at low default part rest is program cells goal passes.parts (passes.parts ++ part ∷ []) fits (passes.stands program cells fits) refl;
  are = λ program cells fits. passed-parts frames at low default part rest is program cells passes.parts (passes.parts ++ part ∷ []) fits (passes.are program cells fits) refl;
  count = passed-count frames at low default part rest is passes.parts (passes.parts ++ part ∷ []) left place passes.count refl high;
}
