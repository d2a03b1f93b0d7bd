use Rattle.std.proofs.Common.{◌≡◌, take}
use Rattle.le_proofs.specs.Goals.{asked_terms}
use Rattle.le_check.proofs.replaying.asked_terms.Given as goal

-- the variables so far stand as terms
abbrev pub invariant-loop-one : goal.invariant-loop-one
invariant-loop-one l = l.terms.items ≡ asked_terms (take l.one-index l.asked)
