use Rattle.std.proofs.Common.{◌≡◌, ◌++◌, length, drop, None}
use Rattle.std.specs.List.{All}
use Rattle.le_docs.specs.Bounds.{IsHeadOver}
use Rattle.le_docs.specs.Faults.{least_from}
use Rattle.le_docs.specs.Headers.{heads_of, lines_faults, first_faults}
use Rattle.le_docs.proofs.headers.find_headers.Given as goal

-- the headers so far and those of what is left are all, and the faults likewise
abbrev pub invariant-loop-line : goal.invariant-loop-line
invariant-loop-line l = record {
  heads : l.heads.items ++ heads_of l.layout (drop l.line-index l.layout.lines) ≡ heads_of l.layout l.layout.lines;
  within : All (IsHeadOver (length l.layout.tokens)) l.heads.items;
  least : least_from l.least (lines_faults l.layout (drop l.line-index l.layout.lines)) ≡ least_from (least_from None (first_faults l.layout l.layout.lines)) (lines_faults l.layout l.layout.lines);
}
