use Rattle.std.proofs.Common.{◌≡◌, ◌+◌, ◌-◌, ◌≤◌, length, drop}
use Rattle.le_layout.specs.Pieces.{word_more}
use Rattle.le_layout.proofs.piece.word_more.Given as goal

abbrev pub invariant-loop-len : goal.invariant-loop-len
invariant-loop-len l = record {
  inside : l.len ≤ length l.rest;
  counted : l.len + word_more l.last (drop l.len l.rest) ≡ word_more l.fn.first l.rest;
}

abbrev pub decreases-loop-len : goal.decreases-loop-len
decreases-loop-len l = length l.rest - l.len
