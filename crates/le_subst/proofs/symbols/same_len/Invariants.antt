use Rattle.std.proofs.Common.{◌≡◌, take}
use Rattle.le_subst.proofs.symbols.same_len.Given as goal

-- the symbols so far are the same
abbrev pub invariant-loop-at : goal.invariant-loop-at
invariant-loop-at l = take l.at l.left ≡ take l.at l.right
