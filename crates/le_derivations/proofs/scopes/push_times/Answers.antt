use Rattle.std.proofs.Common.{◌∷◌, ◌∙◌, reverse, sym, ap}
use Rattle.le_derivations.proofs.Fronts.{last-first}
use Rattle.le_derivations.proofs.Noting.{times-more}
use Rattle.le_derivations.proofs.scopes.push_times.Goals as goal

pub loop-done-preserved : goal.loop-done-preserved
loop-done-preserved c =
    ap reverse c.in_ok-push.ensures.items
    ∙ (last-first c.loop-done.waiting.items c.args.scope
    ∙ (ap (λ r. c.args.scope ∷ r) c.loop-done.invariant ∙ sym (times-more c.loop-done.done c.args.scope (reverse c.args.waiting.now.items))))
