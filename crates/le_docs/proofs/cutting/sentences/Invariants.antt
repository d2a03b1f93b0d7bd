use Rattle.std.proofs.Common.{◌≡◌, ◌⊎◌, ◌≤◌, ◌-◌, ◌++◌, length}
use Rattle.std.specs.List.{All}
use Rattle.le_docs.specs.Bounds.{IsSentenceOver}
use Rattle.le_docs.specs.Cuts.{longer, parts_in, spans_at, open_at}
use Rattle.le_docs.proofs.cutting.sentences.Given as goal

-- the sentences so far and those of what is left, which begins with the tokens since the last end, are all
abbrev pub invariant-loop-k : goal.invariant-loop-k
invariant-loop-k l = record {
  within : All (IsSentenceOver (length l.layout.tokens)) l.sentences.items;
  begun : l.start ≤ l.k;
  over : (l.k ≤ l.to) ⊎ (l.start ≡ l.k);
  spans : l.sentences.items ++ spans_at l.start (longer (l.k - l.start) (parts_in l.layout l.commas l.k l.to)) ≡ spans_at l.fn.from (parts_in l.layout l.commas l.fn.from l.to);
  unended : open_at l.start (longer (l.k - l.start) (parts_in l.layout l.commas l.k l.to)) ≡ open_at l.fn.from (parts_in l.layout l.commas l.fn.from l.to);
}
