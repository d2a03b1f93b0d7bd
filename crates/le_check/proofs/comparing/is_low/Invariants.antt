use Rattle.std.proofs.Common.{◌≡◌, drop, nat_lt}
use Rattle.std.specs.List.{list_all}
use Rattle.le_terms.specs.Walks.{symbol_variables}
use Rattle.le_check.proofs.comparing.is_low.Given as goal

-- all are low where those of the rest are
abbrev pub invariant-loop-sym : goal.invariant-loop-sym
invariant-loop-sym l = list_all (λ v. nat_lt v 4000000000) (symbol_variables l.syms) ≡ list_all (λ v. nat_lt v 4000000000) (symbol_variables (drop l.sym-index l.syms))
