use Rattle.std.proofs.Common.{◌≤◌, length}
use Rattle.le_goals.proofs.Pairings.{PairedFrom}
use Rattle.le_goals.proofs.unifying.build_pairs.Given as goal

abbrev pub invariant-pairs : goal.invariant-pairs
invariant-pairs l = record {
  paired : PairedFrom l.fn.store l.store l.pairs.items l.fn.left l.fn.lefts l.fn.right l.fn.rights l.at;
  low_left : l.at ≤ length l.fn.lefts;
  low_right : l.at ≤ length l.fn.rights;
}

abbrev pub decreases-pairs : goal.decreases-pairs
decreases-pairs l = l.at
