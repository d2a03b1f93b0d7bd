use Rattle.std.proofs.Common.{◌≡◌, drop}
use Rattle.le_terms.specs.Walks.{symbol_variables}
use Rattle.le_terms.proofs.variables.has_no_variable.Given as goal

-- no variable was seen so far
abbrev pub invariant-loop-sym : goal.invariant-loop-sym
invariant-loop-sym l = symbol_variables l.syms ≡ symbol_variables (drop l.sym-index l.syms)
