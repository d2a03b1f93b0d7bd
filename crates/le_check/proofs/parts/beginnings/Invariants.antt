use Rattle.std.proofs.Common.{◌≡◌, ◌≤◌, ◌-◌, ◌++◌, drop, length}
use Rattle.le_proofs.specs.Replay.{beginnings as beginnings_of}
use Rattle.le_check.specs.Parts.{AreInside, nodes_from}
use Rattle.le_check.proofs.parts.beginnings.Given as goal

-- the places so far, with those of the parts that are left, are all of them
abbrev pub invariant-loop-done : goal.invariant-loop-done
invariant-loop-done l = record {
  all : nodes_from l.nodes l.places.items ++ beginnings_of (l.count - l.done) (drop l.at l.nodes) ≡ beginnings_of l.count (drop l.from l.nodes);
  at : l.at ≤ length l.nodes;
  inside : AreInside l.nodes l.places.items;
}
