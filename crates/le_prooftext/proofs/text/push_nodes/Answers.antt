use Rattle.le_prooftext.proofs.WrittenLines.{nodes_more}
use Rattle.le_prooftext.proofs.text.push_nodes.Goals as goal

pub loop-node-preserved : goal.loop-node-preserved
loop-node-preserved c =
    nodes_more c.args.nodes.now c.loop-node.node-index c.node-item.result c.args.text.now c.loop-node.text c.push_line.new.text c.loop-node-test.true c.node-item.is c.loop-node.invariant c.in_ok-push_line.ensures
