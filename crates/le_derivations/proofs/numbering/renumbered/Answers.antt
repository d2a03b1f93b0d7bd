use Rattle.std.proofs.Common.{◌<◌, ◌∙◌, length, get_or, sym, subst}
use Rattle.std.proofs.lemmas.List.{get_or_default}
use Rattle.le_derivations.proofs.Noting.{numbered-node}
use Rattle.le_derivations.proofs.numbering.renumbered.Goals as goal

pub loop-place-preserved : goal.loop-place-preserved
loop-place-preserved c =
    let place = c.loop-place.place in
    let scopes = c.args.scopes.now in
    let inside : place < length scopes = subst (λ n. place < n) (sym c.requires.all) c.loop-place-test.true in
    numbered-node c.args.keys.now.keys c.args.width scopes c.args.nodes.now place (get_or scopes place 0) c.index-nodes-place.result c.loop-place.new.items c.push.new.self.items c.in_ok-changed_node.field-0 inside
    (get_or_default scopes place 0 (get_or scopes place 0) inside) c.loop-place-test.true c.index-nodes-place.is c.in_ok-push.ensures.items c.in_ok-changed_node.ensures
    ∙ c.loop-place.invariant
