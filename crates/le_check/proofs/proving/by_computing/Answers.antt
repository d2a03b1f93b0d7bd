use Rattle.std.proofs.Common.{refl}
use Rattle.le_proofs.specs.Proofs.{value_computed}
use Rattle.le_proofs.specs.Search.{computing}
use Rattle.le_check.proofs.Resuming.{ok-all}
use Rattle.le_check.proofs.proving.by_computing.Goals as goal

pub returns-clause-means : goal.returns-clause-means
returns-clause-means g c =
    ok-all _ _
    (λ turn goes program nodes frames order whole line h.
    goes program nodes frames order whole (value_computed c.args.atom) (computing line c.args.atom) (c.in_ok-outcome.ensures.exact line) (refl, c.new.ensures.items) refl h) c.past_by.result c.past_by.ensures
