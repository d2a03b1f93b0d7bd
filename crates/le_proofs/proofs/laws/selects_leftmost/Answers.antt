use Rattle.le_proofs.proofs.Leftmost.{selected-first, in_front}
use Rattle.le_proofs.proofs.laws.selects_leftmost.Goals as goal

pub returns : goal.returns
returns c = λ literal literals new. (selected-first literal literals, in_front literal literals new)
