use Rattle.std.proofs.Common.{◌≡◌, ◌-◌, ◌≤◌, ◌++◌, vec_len}
use Rattle.le_conds.specs.Openers.{each_end, gather_end}
use Rattle.le_conds.specs.Items.{items_from, items_of}
use Rattle.le_conds.proofs.cutting.items.Given as goal

-- the items so far and those of what is left, before which an item is open, are all
abbrev pub invariant-loop-k : goal.invariant-loop-k
invariant-loop-k l = record {
  low : l.fn.from ≤ l.k;
  high : l.k ≤ l.to;
  begun : l.item.content.from ≤ l.k;
  each : l.seen.each ≡ each_end l.layout l.item.content.from l.k;
  such_that : l.seen.such_that ≡ gather_end l.layout l.item.content.from l.k;
  few : vec_len l.items ≤ l.k - l.fn.from;
  all : l.items.items ++ items_from l.layout l.to l.item l.k (l.to - l.k) ≡ items_of l.layout l.fn.from l.fn.to;
}
