use Rattle.std.proofs.Common.{◌≡◌, ◌-◌, ◌≤◌, length, drop}
use Rattle.le_layout.specs.Places.{place_behind}
use Rattle.le_layout.specs.Room.{HasRoom}
use Rattle.le_layout.proofs.place.place_behind.Given as goal

abbrev pub invariant-loop-at : goal.invariant-loop-at
invariant-loop-at l = record {
  inside : l.at ≤ length l.chars;
  room : HasRoom l.place (length l.chars - l.at);
  place : place_behind l.place (drop l.at l.chars) ≡ place_behind l.fn.from l.chars;
}

abbrev pub decreases-loop-at : goal.decreases-loop-at
decreases-loop-at l = length l.chars - l.at
