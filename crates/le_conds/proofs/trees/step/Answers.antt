use Rattle.std.proofs.Common.{◌++◌, ◌∙◌, sym, ap}
use Rattle.le_conds.specs.Stack.{pushed}
use Rattle.le_conds.proofs.StackLaws.{pushes}
use Rattle.le_conds.proofs.trees.step.Goals as goal

pub returns-clause-nodes : goal.returns-clause-nodes
returns-clause-nodes c = λ ms same turns.
    let e = c.args.entry in
    let counted = c.count_scope-count.ensures.exact ms (c.as_slice.ensures.value ∙ same) in
    c.in_ok-push_item.ensures ms (c.as_slice-4.ensures.value ∙ same) turns counted (c.count_marker-marker.ensures.exact ms (c.as_slice-2.ensures.value ∙ same) counted)
    ∙ ap (λ xs. xs ++ pushed e.opens e ms) turns
    ∙ sym (pushes e.opens e ms)
