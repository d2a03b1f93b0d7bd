use Rattle.std.proofs.Common.{◌≡◌, drop}
use Rattle.le_terms.specs.Walks.{all_noted}
use Rattle.le_derivations.specs.Numbers.{nodes_keys}
use Rattle.le_derivations.proofs.numbering.note_nodes.Given as goal

-- what is noted so far, with the keys of the nodes that are left, is what all of them make
abbrev pub invariant-loop-place : goal.invariant-loop-place
invariant-loop-place l = all_noted l.keys.keys (nodes_keys l.width (drop l.place l.scopes) (drop l.place l.nodes)) ≡ all_noted l.fn.keys.keys (nodes_keys l.width l.scopes l.nodes)
