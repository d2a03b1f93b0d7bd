use Rattle.std.proofs.Common.{◌++◌, ◌∙◌, sym, ap, append_assoc}
use Rattle.le_conds.specs.Stack.{turned, closing, scope_of, marker_of, left_of, heads_of, opened_by}
use Rattle.le_conds.proofs.StepLemmas.{scope_split, last_part, pushed_made}
use Rattle.le_conds.proofs.trees.push_item.Goals as goal

pub returns : goal.returns
returns c = λ ms same turns counted marked.
    let e = c.args.entry in
    let o = e.opens in
    let nodes = c.args.nodes.now.items in
    let scope = scope_of o e ms in
    let rest = marker_of o ms ++ left_of o e ms in
    let closed = closing (heads_of o e) scope in
    let own = opened_by o e (marker_of o ms) in
    c.in_ok-push_opener.ensures (marker_of o ms) marked
    ∙ ap (λ xs. xs ++ own)
    (c.in_ok-close.ensures scope rest (c.split_at.ensures.back ∙ last_part scope rest ms c.args.waiting.now c.args.count same (scope_split o e ms) counted) (turns ∙ ap turned (sym (scope_split o e ms))))
    ∙ append_assoc nodes closed own
    ∙ ap (λ xs. nodes ++ xs) (sym (pushed_made o e ms))
