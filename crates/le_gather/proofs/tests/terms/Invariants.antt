use Rattle.std.proofs.Common.{◌≡◌, vec_len}
use Rattle.le_gather.proofs.tests.terms.Given as goal

-- each value has its term
abbrev pub invariant-loop-one : goal.invariant-loop-one
invariant-loop-one l = vec_len l.terms ≡ l.one-index
