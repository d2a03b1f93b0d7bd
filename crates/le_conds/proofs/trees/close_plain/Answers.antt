use Rattle.std.proofs.Common.{◌++◌, [], ◌∷◌, ◌∙◌, ap, arith}
use Rattle.le_conds.specs.Trees.{cond}
use Rattle.le_conds.proofs.StepLemmas.{joint_plain}
use Rattle.le_conds.proofs.trees.close_plain.Goals as goal

pub returns : goal.returns
returns c = λ ms rest same turns.
    let nodes = c.args.nodes.now.items in
    c.in_ok-push-2.ensures.items
    ∙ ap (λ ys. nodes ++ ys)
    (ap (λ kind. cond kind c.last_at-at.result ∷ []) c.kind_by.ensures
    ∙ joint_plain ms rest c.args.inner.now nodes _ c.last_at-at.result same (omega (arith, c.if-count-eq0.false, c.if-count-eq1.false)) turns
    (λ m others e. c.last_at-at.ensures m others (c.as_slice.ensures.value ∙ e)))
