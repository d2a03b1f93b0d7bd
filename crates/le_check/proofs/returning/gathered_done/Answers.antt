use Rattle.std.proofs.Common.{subst}
use Rattle.le_gather.specs.Folds.{fold_of}
use Rattle.le_proofs.specs.Search.{by_fold}
use Rattle.le_check.specs.Goals.{IsOutcome}
use Rattle.le_check.proofs.Resuming.{ok-all}
use Rattle.le_check.proofs.returning.gathered_done.Goals as goal

pub returns-clause-means : goal.returns-clause-means
returns-clause-means g c =
    ok-all _ _
    (λ turn goes program nodes frames order whole h.
    goes program nodes frames order whole (by_fold h.0 c.args.frame.result (fold_of c.args.frame.fold c.args.grown.found.items))
    (subst (λ fs. IsOutcome c.in_ok-outcome.outcome (by_fold h.0 c.args.frame.result (fold_of c.args.frame.fold fs))) c.deref.ensures.value (c.in_ok-outcome.ensures.exact h.0)) h.1) c.past_by.result c.past_by.ensures
