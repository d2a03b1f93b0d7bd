use Rattle.std.proofs.Common.{◌≡◌, drop}
use Rattle.le_terms.specs.Walks.{symbol_variables, all_noted}
use Rattle.le_listing.proofs.variables.note_syms.Given as goal

-- what is noted so far, with the variables that are left, is what all of them make
abbrev pub invariant-loop-sym : goal.invariant-loop-sym
invariant-loop-sym l = all_noted l.set.keys (symbol_variables (drop l.sym-index l.syms)) ≡ all_noted l.fn.set.keys (symbol_variables l.syms)
