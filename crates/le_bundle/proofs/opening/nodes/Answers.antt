use Rattle.std.proofs.Common.{◌+◌, ◌*◌, ◌≤◌, ◌∙◌, ◌∷◌, [], length, length-append, ap, arith}
use Rattle.le_proofs.specs.declared.node.Node.{Node}
use Rattle.le_bundle.specs.Lines.{Read, lines_of}
use Rattle.le_bundle.proofs.ReadLemmas.{nodes_more}
use Rattle.le_bundle.proofs.opening.nodes.Goals as goal

pub loop-left-preserved : goal.loop-left-preserved
loop-left-preserved c =
    let before = c.loop-left in
    let now = c.node.new.reader in
    let r : Read Node = record { value = c.in_ok-node.node; number = now.number; lines = lines_of now.rest.now } in
    let more = nodes_more before.nodes.items before.left before.reader.number (lines_of before.reader.rest.now) r c.loop-left-test.true c.in_ok-node.ensures.exact in
    let count : length c.keep_node.new.nodes.items ≤ length before.nodes.items + 1 = omega (arith, ap length c.in_ok-keep_node.ensures, length-append before.nodes.items (c.in_ok-node.node ∷ [])) in
    let room : 5 * length c.keep_node.new.nodes.items + length now.rest.now ≤ length c.args.reader.now.rest.now = omega (arith, count, before.invariant.1, c.in_ok-node.ensures.shorter) in
    (rw c.in_ok-keep_node.ensures (more ∙ before.invariant.0), room)
