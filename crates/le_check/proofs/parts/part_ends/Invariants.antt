use Rattle.std.proofs.Common.{◌≤◌, length}
use Rattle.le_check.specs.Parts.{EndFrom}
use Rattle.le_check.proofs.parts.part_ends.Given as goal

-- the ends from the place on are found
abbrev pub invariant-loop-place : goal.invariant-loop-place
invariant-loop-place l = record {
  inside : l.place ≤ length l.nodes;
  ends : EndFrom l.nodes l.ends.items l.place;
}

-- proposed from the loop's first test
abbrev pub decreases-loop-place : goal.decreases-loop-place
decreases-loop-place l = l.place
