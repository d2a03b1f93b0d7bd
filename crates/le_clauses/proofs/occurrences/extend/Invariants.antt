use Rattle.std.proofs.Common.{◌≡◌, ℕ, ◌+◌, ◌-◌, get_or, vec_len}
use Rattle.le_clauses.proofs.occurrences.extend.Given as goal

-- each count is as before
abbrev pub invariant-loop-times : goal.invariant-loop-times
invariant-loop-times l = (v : ℕ) → get_or l.times.items v 0 ≡ get_or l.fn.times.items v 0

abbrev pub decreases-loop-times : goal.decreases-loop-times
decreases-loop-times l = (l.place + 1) - vec_len l.times
