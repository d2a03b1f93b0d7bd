use Rattle.std.proofs.Common.{◌≡◌, map, take}
use Rattle.le_terms.specs.Walks.{renumbered}
use Rattle.le_terms.proofs.variables.renumber_syms.Given as goal

-- the symbols so far are renumbered
abbrev pub invariant-loop-sym : goal.invariant-loop-sym
invariant-loop-sym l = l.new.items ≡ map (renumbered l.vars.keys) (take l.sym-index l.syms)
