use Rattle.std.proofs.Common.{◌≡◌, ◌++◌, drop}
use Rattle.le_clauses.specs.Occurrences.{parts_vars}
use Rattle.le_clauses.proofs.occurrences.rule_occurrences.Given as goal

-- the variables so far with those of the parts that are left are all
abbrev pub invariant-loop-part : goal.invariant-loop-part
invariant-loop-part l = l.all.items ++ parts_vars (drop l.part-index l.parts) ≡ l.head ++ parts_vars l.parts
