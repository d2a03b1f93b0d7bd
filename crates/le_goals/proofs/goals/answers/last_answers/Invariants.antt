use Rattle.std.proofs.Common.{◌<◌, length}
use Rattle.le_goals.specs.Parting.{AreAnyFrames}
use Rattle.le_goals.proofs.LastFrames.{LeadsTo}
use Rattle.le_goals.proofs.goals.answers.last_answers.Given as goal

abbrev pub invariant-frames : goal.invariant-frames
invariant-frames l = record {
  any : AreAnyFrames l.frames;
  low : l.at < length l.frames;
  leads : LeadsTo l.frames l.goal l.at;
}

abbrev pub decreases-frames : goal.decreases-frames
decreases-frames l = l.at
