use Rattle.std.proofs.Common.{◌≡◌, ◌++◌, drop}
use Rattle.le_terms.specs.Walks.{symbol_variables}
use Rattle.le_clauses.proofs.occurrences.add_syms.Given as goal

-- the variables so far with those of what is left are all
abbrev pub invariant-loop-sym : goal.invariant-loop-sym
invariant-loop-sym l = l.vars.items ++ symbol_variables (drop l.sym-index l.syms) ≡ l.fn.vars.items ++ symbol_variables l.syms
