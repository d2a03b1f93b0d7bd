use Rattle.std.proofs.Common.{◌≡◌, ◌+◌, ◌-◌, ◌++◌, [], ◌∷◌, ◌∙◌, sym, ap, arith, length-append, length, max, take, drop}
use Rattle.le_conds.specs.Stack.{scope_of, marker_of, left_of, stacked}
use Rattle.le_conds.proofs.StepLemmas.{taken_split, first_part, last_part, member_made}
use Rattle.le_conds.proofs.trees.replace.Goals as goal

pub returns-clause-items : goal.returns-clause-items
returns-clause-items c = λ ms same counted marked.
    let e = c.args.entry in
    let o = e.opens in
    let items = c.args.waiting.now.items in
    let taken = scope_of o e ms ++ marker_of o ms in
    let all = c.args.count + c.args.marker in
    let count : all ≡ length taken = omega (arith, counted, marked, length-append (scope_of o e ms) (marker_of o ms)) in
    let whole = c.len.ensures ∙ sym c.as_slice.ensures.len ∙ ap length c.as_slice.ensures.value in
    c.in_ok-push.ensures.items
    ∙ ap (λ xs. xs ++ record { item = e; deepest = c.greater.result } ∷ []) (c.truncate.ensures.items ∙ ap (λ n. take (n - all) items) whole ∙ first_part taken (left_of o e ms) ms items all same (taken_split o e ms) count)
    ∙ ap (λ n. stacked (left_of o e ms) ++ record { item = e; deepest = n } ∷ [])
    (c.greater.ensures ∙ ap (max e.column) (c.deepest.ensures taken (c.split_at.ensures.back ∙ ap (λ n. drop (n - all) c.as_slice.result.now) whole ∙ ap (drop (length items - all)) c.as_slice.ensures.value ∙ last_part taken (left_of o e ms) ms items all same (taken_split o e ms) count)))
    ∙ sym (member_made o e ms)
