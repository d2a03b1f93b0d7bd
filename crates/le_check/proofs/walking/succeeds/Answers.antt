use Rattle.std.proofs.Common.{◌≡◌, ◌++◌, [], ◌∷◌, false, drop, length, ap, ap₂, ◌∙◌, subst}
use Rattle.le_builtins.specs.Compute.{argument}
use Rattle.le_proofs.specs.declared.node.Node.TheVariants as node
use Rattle.le_proofs.specs.Replay.{empty_tree, proofs_within, tree_within}
use Rattle.le_check.specs.Left.{TreeGives}
use Rattle.le_check.proofs.Growing.{success-done}
use Rattle.le_check.proofs.walking.succeeds.Goals as goal

pub returns : goal.returns
returns c = λ program nodes frames order whole h.
    let walk = c.args.walk in
    let failed : c.args.walk.failed ≡ false = c.if-walk.false in
    let is : c.args.node.now ≡ node.Success = c.in-Success.is in
    let value : c.in_ok-value.value ≡ argument c.args.walk.goal.terms.items 0 = c.in_ok-value.ensures ∙ ap (λ ts. argument ts 0) c.deref.ensures.value in
    success-done program nodes frames c.args.grown.nodes.items _ c.args.grown.found.items _ order whole walk.fuel c.args.number walk.goal.terms.items (drop c.args.at nodes)
    c.in_ok-more.ensures.nodes (c.in_ok-push.ensures.items ∙ ap₂ (λ fs v. fs ++ v ∷ []) c.in_ok-more.ensures.found value)
    (subst (λ n. TreeGives program nodes frames c.args.grown order (empty_tree program (length nodes) (proofs_within program (length nodes) walk.fuel) (tree_within program (length nodes) walk.fuel) false walk.goal.terms.items c.args.number (drop c.args.at nodes) n) whole) is
    (subst (λ b. TreeGives program nodes frames c.args.grown order (empty_tree program (length nodes) (proofs_within program (length nodes) walk.fuel) (tree_within program (length nodes) walk.fuel) b walk.goal.terms.items c.args.number (drop c.args.at nodes) c.args.node.now) whole) failed h))
