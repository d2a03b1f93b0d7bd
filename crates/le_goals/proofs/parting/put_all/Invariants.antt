use Rattle.std.proofs.Common.{ℕ, ◌<◌, length}
use Rattle.std.specs.List.{AllByRecursion}
use Rattle.le_terms.specs.declared.program.Program.{Program}
use Rattle.le_goals.specs.State.{IsPart, AreFrames}
use Rattle.le_goals.proofs.Puttings.{PutSoFar}
use Rattle.le_goals.proofs.parting.put_all.Given as goal

abbrev pub invariant-parts : goal.invariant-parts
invariant-parts l = record {
  so_far : (program : Program) (cells : ℕ) → AreFrames program cells 0 l.fn.frames.items → AllByRecursion (IsPart program cells) l.fn.parts.items → l.fn.rest < length l.fn.frames.items
      → PutSoFar program cells l.fn.frames.items l.frames.items l.fn.parts.items l.parts.items l.fn.rest l.last;
}

abbrev pub decreases-parts : goal.decreases-parts
decreases-parts l = length l.parts.items
