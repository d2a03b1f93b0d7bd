use Rattle.std.proofs.Common.{◌≤◌, [], take, length, reverse}
use Rattle.le_proofs.specs.Proofs.{Leaf}
use Rattle.le_derivations.specs.Paths.{IsPartWay}
use Rattle.le_derivations.proofs.proving.proved.Given as goal

-- the steps that are left and the proofs so far lead to the leaf that all of them lead to
abbrev pub invariant-loop-at : goal.invariant-loop-at
invariant-loop-at l = record {
  inside : l.at ≤ length l.path;
  part : (whole : Leaf) → IsPartWay (reverse l.path) [] 0 [] whole → IsPartWay (reverse (take l.at l.path)) (reverse l.proving.nodes.items) l.proving.proofs l.proving.by whole;
}

abbrev pub decreases-loop-at : goal.decreases-loop-at
decreases-loop-at l = l.at
