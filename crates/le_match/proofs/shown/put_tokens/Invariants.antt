use Rattle.std.proofs.Common.{◌≡◌, ◌++◌, map, slice_range}
use Rattle.le_match.specs.Shown.{plain, text_from}
use Rattle.le_match.specs.Walks.{glued_after}
use Rattle.le_match.proofs.shown.put_tokens.Given as goal

abbrev pub invariant-loop-at : goal.invariant-loop-at
invariant-loop-at l = record {
  text : l.line.text ++ text_from l.layout l.line.glued (map plain (slice_range l.layout.tokens l.at l.fn.span.to)) ≡ l.fn.line.text ++ text_from l.layout l.fn.line.glued (map plain (slice_range l.layout.tokens l.fn.span.from l.fn.span.to));
  glued : glued_after l.line.glued (map plain (slice_range l.layout.tokens l.at l.fn.span.to)) ≡ glued_after l.fn.line.glued (map plain (slice_range l.layout.tokens l.fn.span.from l.fn.span.to));
}
