use Rattle.std.proofs.Common.{◌≡◌, ◌+◌, ◌-◌, ◌≤◌, length, drop}
use Rattle.le_layout.specs.Pieces.{before_end}
use Rattle.le_layout.proofs.piece.before_end.Given as goal

abbrev pub invariant-loop-len : goal.invariant-loop-len
invariant-loop-len l = record {
  inside : l.len ≤ length l.rest;
  counted : l.len + before_end (drop l.len l.rest) ≡ before_end l.rest;
}

abbrev pub decreases-loop-len : goal.decreases-loop-len
decreases-loop-len l = length l.rest - l.len
