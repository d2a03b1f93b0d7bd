use Rattle.std.proofs.Common.{◌≡◌, ◌-◌, ◌≤◌, length, drop}
use Rattle.le_layout.specs.Characters.{may_be_quoted}
use Rattle.le_layout.specs.Room.{HasRoom}
use Rattle.le_layout.specs.Faults.{faults_among}
use Rattle.le_layout.proofs.faults.fault_in_quote.Given as goal

abbrev pub invariant-loop-at : goal.invariant-loop-at
invariant-loop-at l = record {
  inside : l.at ≤ length l.chars;
  room : HasRoom l.place (length l.chars - l.at);
  faults : faults_among may_be_quoted l.place (drop l.at l.chars) ≡ faults_among may_be_quoted l.fn.from l.chars;
}

abbrev pub decreases-loop-at : goal.decreases-loop-at
decreases-loop-at l = length l.chars - l.at
