use Rattle.std.proofs.Common.{◌≡◌, ◌++◌, drop}
use Rattle.le_derivations.specs.Numbers.{numbered_nodes}
use Rattle.le_derivations.proofs.numbering.renumbered.Given as goal

-- the nodes so far, with those that are left, are all of them
abbrev pub invariant-loop-place : goal.invariant-loop-place
invariant-loop-place l = l.new.items ++ numbered_nodes l.keys.keys l.width (drop l.place l.scopes) (drop l.place l.nodes) ≡ numbered_nodes l.keys.keys l.width l.scopes l.nodes
