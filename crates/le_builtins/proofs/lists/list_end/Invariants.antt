use Rattle.std.proofs.Common.{◌≡◌, ◌+◌, ◌≤◌, length}
use Rattle.le_terms.specs.Tree.{tree_of, flat}
use Rattle.le_builtins.specs.Lists.{list_length, last_tail}
use Rattle.le_builtins.proofs.lists.list_end.Given as goal

-- what is left is the list after the items so far
abbrev pub invariant-loop-rest : goal.invariant-loop-rest
invariant-loop-rest l = record {
  whole : flat (tree_of l.rest) ≡ l.rest;
  items : l.items + list_length (tree_of l.rest) ≡ list_length (tree_of l.list);
  end : last_tail (tree_of l.rest) ≡ last_tail (tree_of l.list);
  few : l.items + length l.rest ≤ length l.list;
}

abbrev pub decreases-loop-rest : goal.decreases-loop-rest
decreases-loop-rest l = length l.rest
