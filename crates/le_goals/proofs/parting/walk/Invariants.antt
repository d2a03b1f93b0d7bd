use Rattle.std.proofs.Common.{◌≡◌, ℕ, ◌+◌, ◌<◌, length}
use Rattle.std.specs.List.{AllByRecursion}
use Rattle.le_terms.specs.declared.program.Program.{Program}
use Rattle.le_goals.specs.State.{IsPart, AreFrames}
use Rattle.le_goals.specs.Parting.{AreAnyFrames, laid_at, before_all, literal_count}
use Rattle.le_goals.proofs.parting.walk.Given as goal

abbrev pub invariant-frames : goal.invariant-frames
invariant-frames l = record {
  any : AreAnyFrames l.frames;
  low : l.at < length l.frames;
  stands : (program : Program) (cells : ℕ) → AreFrames program cells 0 l.frames → laid_at program l.frames l.goal ≡ before_all program l.passed.items (laid_at program l.frames l.at);
  passed_ : (program : Program) (cells : ℕ) → AreFrames program cells 0 l.frames → AllByRecursion (IsPart program cells) l.passed.items;
  place_ : literal_count l.passed.items + l.left ≡ l.place;
}

abbrev pub decreases-frames : goal.decreases-frames
decreases-frames l = l.at
