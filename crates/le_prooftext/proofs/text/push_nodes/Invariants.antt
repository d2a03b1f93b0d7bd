use Rattle.std.proofs.Common.{◌≡◌, ◌++◌, take}
use Rattle.le_prooftext.specs.Lines.{nodes_text}
use Rattle.le_prooftext.proofs.text.push_nodes.Given as goal

-- the lines of the nodes so far are written
abbrev pub invariant-loop-node : goal.invariant-loop-node
invariant-loop-node l = l.text ≡ l.initial.text ++ nodes_text (take l.node-index l.nodes)
