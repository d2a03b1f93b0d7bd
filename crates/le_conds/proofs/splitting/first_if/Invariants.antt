use Rattle.std.proofs.Common.{◌≡◌, ◌≤◌}
use Rattle.le_layout.specs.Words.{tokens_of}
use Rattle.le_conds.specs.Items.{span}
use Rattle.le_conds.specs.Rules.{if_from, first_if}
use Rattle.le_conds.proofs.splitting.first_if.Given as goal

abbrev pub invariant-loop-k : goal.invariant-loop-k
invariant-loop-k l = record {
  low : l.fn.sentence.from ≤ l.k;
  high : l.k ≤ l.fn.sentence.to;
  same : if_from l.layout l.k (tokens_of l.layout (span l.k l.sentence.to)) ≡ first_if l.layout l.fn.sentence;
}
