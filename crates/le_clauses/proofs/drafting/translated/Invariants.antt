use Rattle.std.proofs.Common.{◌≡◌, reverse, vec_len}
use Rattle.le_clauses.specs.Walks.{dones}
use Rattle.le_clauses.proofs.DraftSteps.{dones_onto}
use Rattle.le_clauses.proofs.drafting.translated.Given as goal

-- the marks that are left, before what is done, make what all of them make
abbrev pub invariant-loop-mark : goal.invariant-loop-mark
invariant-loop-mark l = dones_onto l.rule l.rest.items (reverse l.stack.items) ≡ dones l.rule l.fn.marks.items

abbrev pub decreases-loop-mark : goal.decreases-loop-mark
decreases-loop-mark l = vec_len l.rest
