use Rattle.std.proofs.Common.{◌≡◌, ◌++◌, drop}
use Rattle.le_listing.specs.ClauseText.{clause_lines}
use Rattle.le_listing.proofs.lines.push_clauses.Given as goal

-- what is written so far, with the clauses that are left, is the whole
abbrev pub invariant-loop-clause : goal.invariant-loop-clause
invariant-loop-clause l = l.text ++ clause_lines l.whole (drop l.clause-index l.clauses) ≡ l.fn.text ++ clause_lines l.whole l.clauses
