use Rattle.std.proofs.Common.{◌≡◌, map, take}
use Rattle.le_literals.specs.Changing.{raised_symbol}
use Rattle.le_literals.proofs.changing.raised_syms.Given as goal

-- the symbols so far are raised
abbrev pub invariant-loop-sym : goal.invariant-loop-sym
invariant-loop-sym l = l.new.items ≡ map (raised_symbol l.next) (take l.sym-index l.syms)
