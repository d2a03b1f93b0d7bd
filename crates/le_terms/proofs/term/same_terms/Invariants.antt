use Rattle.std.proofs.Common.{◌≡◌, length, take}
use Rattle.le_terms.proofs.term.same_terms.Given as goal

-- the terms so far are the same
abbrev pub invariant-loop-place : goal.invariant-loop-place
invariant-loop-place l = record {
  same : take l.place l.terms ≡ take l.place l.others;
  long : length l.terms ≡ length l.others;
}
