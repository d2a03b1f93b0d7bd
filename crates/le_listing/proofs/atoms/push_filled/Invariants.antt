use Rattle.std.proofs.Common.{◌≡◌, ◌++◌, drop}
use Rattle.le_listing.specs.ClauseText.{filled}
use Rattle.le_listing.proofs.atoms.push_filled.Given as goal

-- what is written so far, with the words and slots that are left, is the whole
abbrev pub invariant-loop-part : goal.invariant-loop-part
invariant-loop-part l = l.text ++ filled l.names l.vars (drop l.part-index l.parts) (drop l.next l.args) ≡ l.fn.text ++ filled l.names l.vars l.parts l.args
