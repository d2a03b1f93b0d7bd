use Rattle.std.proofs.Common.{◌≡◌, ◌≤◌, drop, slice_range}
use Rattle.le_match.specs.Walks.{may_fit}
use Rattle.le_match.proofs.fitting.may_fit.Given as goal

abbrev pub invariant-loop-part : goal.invariant-loop-part
invariant-loop-part l = record {
  inside : l.at ≤ l.tokens.to;
  fits : may_fit l.layout (drop l.part-index l.parts) (slice_range l.layout.tokens l.at l.tokens.to) ≡ may_fit l.layout l.parts (slice_range l.layout.tokens l.tokens.from l.tokens.to);
}
