use Rattle.le_check.proofs.Expected.{left-over}
use Rattle.le_check.proofs.comparing.compare.Goals as goal

pub returns-then-place-nodes : goal.returns-then-place-nodes
returns-then-place-nodes c = λ p is. left-over c.args.nodes.now _ c.parts_end-place.result p c.if-place-nodes.true (rw c.as_slice.ensures at c.parts_end-place.ensures.rest)
