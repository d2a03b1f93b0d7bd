use Rattle.std.proofs.Common.{◌≡◌, ◌++◌, drop}
use Rattle.le_listing.specs.ClauseText.{all_marked}
use Rattle.le_listing.proofs.terms.push_all.Given as goal

-- what is written so far, with the terms that are left, is the whole
abbrev pub invariant-loop-term : goal.invariant-loop-term
invariant-loop-term l = l.text ++ all_marked l.names l.vars (drop l.term-index l.terms) ≡ l.fn.text ++ all_marked l.names l.vars l.terms
