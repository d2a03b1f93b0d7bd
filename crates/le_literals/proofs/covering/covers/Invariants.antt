use Rattle.std.proofs.Common.{◌≡◌, ◌==◌, drop}
use Rattle.std.specs.List.{list_all, list_any}
use Rattle.le_terms.specs.Walks.{symbol_variables}
use Rattle.le_literals.proofs.covering.covers.Given as goal

-- all variables are among the others where those of the rest are
abbrev pub invariant-loop-sym : goal.invariant-loop-sym
invariant-loop-sym l =
    list_all (λ v. list_any (λ w. v == w) (symbol_variables l.among)) (symbol_variables l.syms) ≡ list_all (λ v. list_any (λ w. v == w) (symbol_variables l.among)) (symbol_variables (drop l.sym-index l.syms))
