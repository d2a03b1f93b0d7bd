use Rattle.le_proofs.proofs.Admitted.{refutations-agree}
use Rattle.le_proofs.proofs.laws.refutations_agree.Goals as goal

pub returns : goal.returns
returns c = refutations-agree
