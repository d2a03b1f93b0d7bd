use Rattle.std.proofs.Common.{◌≡◌, drop}
use Rattle.le_terms.specs.Walks.{all_noted}
use Rattle.le_listing.specs.ClauseText.{asked_vars}
use Rattle.le_listing.proofs.variables.note_asked.Given as goal

-- what is noted so far, with what is left, is what all of them make
abbrev pub invariant-loop-one : goal.invariant-loop-one
invariant-loop-one l = all_noted l.set.keys (asked_vars (drop l.one-index l.asked)) ≡ all_noted l.fn.set.keys (asked_vars l.asked)
