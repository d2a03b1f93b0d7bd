use Rattle.std.proofs.Common.{◌++◌, [], suc, take, drop, ap, ◌∙◌}
use Rattle.le_check.proofs.Resuming.{put-from}
use Rattle.le_check.proofs.proving.skip_place.Goals as goal

pub returns-clause-places : goal.returns-clause-places
returns-clause-places c = λ nodes.
    put-from nodes c.args.place c.args.proof.places.items [] _ (c.in_ok-places.ensures ∙ ap (λ new. take c.args.place c.args.proof.places.items ++ (new ++ drop (suc c.args.place) c.args.proof.places.items)) c.new.ensures.items)
