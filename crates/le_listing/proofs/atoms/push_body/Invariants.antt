use Rattle.std.proofs.Common.{◌≡◌, ◌++◌, true, drop}
use Rattle.le_listing.specs.ClauseText.{literals_text}
use Rattle.le_listing.proofs.atoms.push_body.Given as goal

-- what is written so far, with the literals that are left, is the whole
abbrev pub invariant-loop-literal : goal.invariant-loop-literal
invariant-loop-literal l = l.text ++ literals_text l.whole l.vars l.is_first (drop l.literal-index l.literals) ≡ l.fn.text ++ literals_text l.whole l.vars true l.literals
