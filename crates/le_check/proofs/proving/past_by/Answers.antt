use Rattle.std.proofs.Common.{subst}
use Rattle.le_check.specs.Left.{ProofPast, ProofDone}
use Rattle.le_check.proofs.Resuming.{ok-all, outcome-goes}
use Rattle.le_check.proofs.proving.past_by.Goals as goal

pub returns-in-GoesOn : goal.returns-in-GoesOn
returns-in-GoesOn c =
    ok-all _ _
    (λ turn goes program nodes frames order whole reason said is shows none h.
    goes program nodes frames order whole c.args.number reason shows none
    (subst (λ o. ProofPast program nodes (ProofDone program nodes frames) c.args.proof c.args.place c.args.number reason order o whole) (outcome-goes c.args.outcome c.in-GoesOn.unifier said c.in-GoesOn.is is) h)) c.past.result c.past.ensures
