use Rattle.std.proofs.Common.{◌≡◌, ℕ, ◌+◌, get_or, drop}
use Rattle.le_clauses.specs.Groups.{count_in}
use Rattle.le_clauses.proofs.occurrences.times.Given as goal

-- each count so far with that of what is left is the count of all
abbrev pub invariant-loop-var : goal.invariant-loop-var
invariant-loop-var l = (v : ℕ) → get_or l.times.items v 0 + count_in (drop l.var-index l.all) v ≡ count_in l.all v
