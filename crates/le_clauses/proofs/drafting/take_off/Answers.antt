use Rattle.std.proofs.Common.{◌+◌, [], ◌∷◌, ◌++◌, reverse, sym, ap, ◌∙◌, arith}
use Rattle.le_clauses.specs.Walks.{first_done, rest_done, drop_done}
use Rattle.le_clauses.proofs.DraftSteps.{take_last, drop_last}
use Rattle.le_clauses.proofs.drafting.take_off.Goals as goal

pub loop-preserved : goal.loop-preserved
loop-preserved c =
    let ds = reverse c.args.stack.now.items in
    let n = c.loop.counter in
    record {
      taken = c.in_ok-push.ensures.items
          ∙ ap (λ d. c.loop.taken.items ++ d ∷ []) (c.pop_done.ensures.first ∙ ap first_done c.loop.invariant.left)
          ∙ ap (λ xs. xs ++ first_done (drop_done n ds) ∷ []) c.loop.invariant.taken
          ∙ sym (take_last n (n + 1) ds (omega arith));
      left = c.pop_done.ensures.rest ∙ ap rest_done c.loop.invariant.left ∙ sym (drop_last n (n + 1) ds (omega arith));
    }
