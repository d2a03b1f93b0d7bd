use Rattle.std.proofs.Common.{◌<◌, length}
use Rattle.le_goals.specs.Parting.{AreAnyFrames}
use Rattle.le_goals.proofs.Walks.{Passes}
use Rattle.le_goals.proofs.finding.find.Given as goal

abbrev pub invariant-frames : goal.invariant-frames
invariant-frames l = record {
  any : AreAnyFrames l.frames;
  low : l.at < length l.frames;
  passed : Passes l.frames l.goal l.place l.at l.left;
}

abbrev pub decreases-frames : goal.decreases-frames
decreases-frames l = l.at
