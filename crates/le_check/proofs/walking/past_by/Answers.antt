use Rattle.std.proofs.Common.{drop, subst}
use Rattle.le_check.specs.Left.{TreePast, TreeDone}
use Rattle.le_check.proofs.Resuming.{ok-all, outcome-goes}
use Rattle.le_check.proofs.walking.past_by.Goals as goal

pub returns-in-GoesOn : goal.returns-in-GoesOn
returns-in-GoesOn c =
    ok-all _ _
    (λ turn goes program nodes frames order whole said is h.
    goes program nodes frames order whole c.args.number
    (subst (λ o. TreePast program nodes (TreeDone program nodes frames) c.args.walk c.args.place c.args.number c.args.grown.nodes.items c.args.grown.found.items order (drop c.args.at nodes) o whole) (outcome-goes c.args.outcome c.in-GoesOn.unifier said c.in-GoesOn.is is) h)) c.past.result c.past.ensures
