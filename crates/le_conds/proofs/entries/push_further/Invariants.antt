use Rattle.std.proofs.Common.{◌≡◌, ◌++◌, ◌≤◌, drop, reverse}
use Rattle.le_conds.specs.Entries.{further_entries}
use Rattle.le_conds.proofs.entries.push_further.Given as goal

-- what was pushed so far and what the blocks see of the items left are all
abbrev pub invariant-loop-k : goal.invariant-loop-k
invariant-loop-k l = record {
  low : 1 ≤ l.k;
  all : l.entries.items ++ further_entries l.layout (reverse l.columns.items) (drop l.k l.items) ≡ l.fn.entries.items ++ further_entries l.fn.layout (reverse l.fn.columns.items) (drop 1 l.fn.items);
}
