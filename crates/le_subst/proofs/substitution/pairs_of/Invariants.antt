use Rattle.std.proofs.Common.{◌≡◌, ◌++◌, reverse}
use Rattle.indexmap.specs.IndexMap.{index_map_len}
use Rattle.le_subst.proofs.substitution.pairs_of.Given as goal

-- the pairs that are left, and after them those that were taken, the last of which was taken first
abbrev pub invariant-loop-pair : goal.invariant-loop-pair
invariant-loop-pair l = l.left.entries ++ reverse l.pairs.items ≡ l.fn.map.entries

abbrev pub decreases-loop-pair : goal.decreases-loop-pair
decreases-loop-pair l = index_map_len l.left
