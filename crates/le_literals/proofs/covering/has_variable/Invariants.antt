use Rattle.std.proofs.Common.{◌≡◌, ◌==◌, drop}
use Rattle.std.specs.List.{list_any}
use Rattle.le_terms.specs.Walks.{symbol_variables}
use Rattle.le_literals.proofs.covering.has_variable.Given as goal

-- the variable is among all where it is among the rest
abbrev pub invariant-loop-sym : goal.invariant-loop-sym
invariant-loop-sym l = list_any (λ w. l.var == w) (symbol_variables l.among) ≡ list_any (λ w. l.var == w) (symbol_variables (drop l.sym-index l.among))
