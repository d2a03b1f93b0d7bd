use Rattle.std.proofs.Common.{◌≡◌, drop, nat_lt}
use Rattle.std.specs.List.{list_all}
use Rattle.le_terms.specs.Variables.{all_occurrences}
use Rattle.le_check.proofs.comparing.are_low.Given as goal

-- all are low where those of the rest are
abbrev pub invariant-loop-term : goal.invariant-loop-term
invariant-loop-term l = list_all (λ v. nat_lt v 4000000000) (all_occurrences l.terms) ≡ list_all (λ v. nat_lt v 4000000000) (all_occurrences (drop l.term-index l.terms))
