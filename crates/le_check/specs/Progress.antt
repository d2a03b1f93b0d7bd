-- What a turn of a replay comes to.
use Rattle.std.specs.Prelude.{ℕ, List}
use Rattle.le_terms.specs.declared.program.Program.{Program}
use Rattle.le_proofs.specs.declared.node.Node.{Node}
use Rattle.le_proofs.specs.Replay.{Replayed, Proven}
use Rattle.le_check.specs.Left.{Means}
use Rattle.le_check.specs.Replays.{IsReplay}
use Rattle.le_check.specs.declared.levels.Frame.{Frame}
use Rattle.le_check.specs.declared.replaying.Progress.{Progress}
use Rattle.le_check.specs.declared.replaying.Progress.TheVariants as progress

-- what the whole replay comes to, of what a turn comes to
abbrev pub Goes : Program → List Node → List Frame → List ℕ → Progress → Replayed Proven → Type 0
Goes program nodes frames order (progress.Goes turn) whole = Means program nodes frames order turn whole
Goes program nodes frames order (progress.Over replay) whole = IsReplay replay whole.answer
