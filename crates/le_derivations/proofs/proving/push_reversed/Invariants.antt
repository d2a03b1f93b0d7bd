use Rattle.std.proofs.Common.{◌≡◌, ◌≤◌, ◌++◌, drop, length, reverse}
use Rattle.le_derivations.proofs.proving.push_reversed.Given as goal

-- the nodes that were put stand before those that were there
abbrev pub invariant-loop-at : goal.invariant-loop-at
invariant-loop-at l = record {
  inside : l.at ≤ length l.more;
  same : reverse l.nodes.items ≡ drop l.at l.more ++ reverse l.fn.nodes.items;
}

abbrev pub decreases-loop-at : goal.decreases-loop-at
decreases-loop-at l = l.at
