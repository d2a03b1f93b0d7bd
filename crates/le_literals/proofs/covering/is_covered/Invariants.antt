use Rattle.std.proofs.Common.{◌≡◌, ◌==◌, drop}
use Rattle.std.specs.List.{list_all, list_any}
use Rattle.le_terms.specs.Variables.{occurrences, all_occurrences}
use Rattle.le_literals.proofs.covering.is_covered.Given as goal

-- all variables are the term's where those of the rest are
abbrev pub invariant-loop-term : goal.invariant-loop-term
invariant-loop-term l =
    list_all (λ v. list_any (λ w. v == w) (occurrences l.value)) (all_occurrences l.atom.args) ≡ list_all (λ v. list_any (λ w. v == w) (occurrences l.value)) (all_occurrences (drop l.term-index l.term-items))
