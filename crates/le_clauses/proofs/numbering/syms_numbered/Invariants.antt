use Rattle.std.proofs.Common.{◌≡◌, map, take}
use Rattle.le_clauses.specs.Numbers.{numbered_sym}
use Rattle.le_clauses.proofs.numbering.syms_numbered.Given as goal

-- the symbols so far are numbered
abbrev pub invariant-loop-sym : goal.invariant-loop-sym
invariant-loop-sym l = l.new.items ≡ map (numbered_sym l.vars) (take l.sym-index l.syms)
