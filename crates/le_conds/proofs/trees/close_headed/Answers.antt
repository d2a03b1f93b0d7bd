use Rattle.std.proofs.Common.{◌++◌, [], ◌∷◌, ◌∙◌, ap, append_assoc}
use Rattle.le_conds.specs.declared.cond.CondKind.TheVariants as kinds
use Rattle.le_conds.specs.Trees.{cond}
use Rattle.le_conds.proofs.StepLemmas.{joint_headed}
use Rattle.le_conds.proofs.trees.close_headed.Goals as goal

pub returns-in_ok-push-2 : goal.returns-in_ok-push-2
returns-in_ok-push-2 c = λ ms same.
    let head = c.args.head in
    let nodes = c.args.nodes.now.items in
    let x = cond (kinds.Sentence head) head.from in
    let last = cond c.kind_by.result head.from in
    c.in_ok-push-2.ensures.items
    ∙ ap (λ xs. xs ++ last ∷ []) c.in_ok-push.ensures.items
    ∙ append_assoc nodes (x ∷ []) (last ∷ [])
    ∙ ap (λ ys. nodes ++ (x ∷ ys)) (ap (λ kind. cond kind head.from ∷ []) c.kind_by.ensures ∙ joint_headed head ms c.args.inner.now _ same c.if-count-gt0.true)
