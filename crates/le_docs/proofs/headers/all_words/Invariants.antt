use Rattle.std.proofs.Common.{◌≡◌}
use Rattle.le_docs.specs.Headers.{all_words}
use Rattle.le_docs.proofs.headers.all_words.Given as goal

abbrev pub invariant-loop-k : goal.invariant-loop-k
invariant-loop-k l = all_words l.layout l.k l.to ≡ all_words l.layout l.fn.from l.to
