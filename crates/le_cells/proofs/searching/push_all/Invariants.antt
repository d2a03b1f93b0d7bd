use Rattle.std.proofs.Common.{◌≡◌, ◌++◌, ◌∷◌, take}
use Rattle.le_cells.proofs.searching.push_all.Given as goal

-- the nodes so far are pushed
abbrev pub invariant-loop-one : goal.invariant-loop-one
invariant-loop-one l = l.nodes.items ≡ l.fn.nodes.items ++ (l.fn.node ∷ take l.one-index l.below)
