use Rattle.std.proofs.Common.{◌≡◌, ◌≤◌}
use Rattle.le_docs.specs.Headers.{first_colon}
use Rattle.le_docs.proofs.headers.first_colon.Given as goal

abbrev pub invariant-loop-k : goal.invariant-loop-k
invariant-loop-k l = record { low : l.fn.from ≤ l.k; same : first_colon l.layout l.k l.to ≡ first_colon l.layout l.fn.from l.to }
