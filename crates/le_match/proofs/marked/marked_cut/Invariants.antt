use Rattle.std.proofs.Common.{◌≡◌, ◌≤◌, drop, slice_range}
use Rattle.le_match.specs.Readings.{marked_cuts}
use Rattle.le_match.proofs.MarkedLemmas.{onto}
use Rattle.le_match.proofs.marked.marked_cut.Given as goal

abbrev pub invariant-loop-part : goal.invariant-loop-part
invariant-loop-part l = record {
  inside : l.at ≤ l.tokens.to;
  ways : onto l.lengths.items (marked_cuts l.layout (drop l.part-index l.parts) (slice_range l.layout.tokens l.at l.tokens.to)) ≡ marked_cuts l.layout l.parts (slice_range l.layout.tokens l.tokens.from l.tokens.to);
}
