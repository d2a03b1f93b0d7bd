use Rattle.std.proofs.Common.{◌≡◌, ◌++◌, drop}
use Rattle.le_listing.specs.ClauseText.{asked_vars, vars_text}
use Rattle.le_listing.proofs.lines.push_asked.Given as goal

-- what is written so far, with the variables that are left, is the whole
abbrev pub invariant-loop-one : goal.invariant-loop-one
invariant-loop-one l = l.text ++ vars_text l.vars (asked_vars (drop l.one-index l.asked)) ≡ l.fn.text ++ vars_text l.vars (asked_vars l.asked)
