use Rattle.std.proofs.Common.{◌≡◌, ◌+◌, ◌-◌, ◌≤◌, length, drop}
use Rattle.le_layout.specs.Pieces.{before_quote}
use Rattle.le_layout.proofs.piece.before_quote.Given as goal

abbrev pub invariant-loop-len : goal.invariant-loop-len
invariant-loop-len l = record {
  inside : l.len ≤ length l.rest;
  counted : l.len + before_quote (drop l.len l.rest) ≡ before_quote l.rest;
}

abbrev pub decreases-loop-len : goal.decreases-loop-len
decreases-loop-len l = length l.rest - l.len
