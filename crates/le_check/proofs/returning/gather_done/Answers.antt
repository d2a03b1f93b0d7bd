use Rattle.std.proofs.Common.{refl, sym, subst}
use Rattle.le_gather.specs.Folds.{fold_of}
use Rattle.le_proofs.specs.Search.{by_fold}
use Rattle.le_proofs.specs.Proofs.{cases_gathered}
use Rattle.le_check.specs.Goals.{IsOutcome}
use Rattle.le_check.proofs.Resuming.{ok-all}
use Rattle.le_check.proofs.returning.gather_done.Goals as goal

pub returns-clause-means : goal.returns-clause-means
returns-clause-means g c =
    let frame = c.args.frame in
    ok-all _ _
    (λ turn goes program nodes frames order whole rest h.
    goes program nodes frames order whole (cases_gathered frame.fold frame.result frame.value frame.atom h.0) (by_fold h.2 frame.result (fold_of frame.fold c.args.grown.found.items))
    (subst (λ fs. IsOutcome c.in_ok-outcome.outcome (by_fold h.2 frame.result (fold_of frame.fold fs))) c.deref.ensures.value (c.in_ok-outcome.ensures.exact h.2)) (refl, sym h.1) refl h.3) c.past_by.result c.past_by.ensures
