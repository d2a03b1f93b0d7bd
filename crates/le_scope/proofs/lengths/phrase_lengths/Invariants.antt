use Rattle.std.proofs.Common.{◌≡◌, ◌-◌, reverse}
use Rattle.le_scope.specs.Lengths.{plain_run, lengths_from}
use Rattle.le_scope.specs.Lists.{until_end, rows_of}
use Rattle.le_scope.proofs.TokenLemmas.{span}
use Rattle.le_scope.proofs.lengths.phrase_lengths.Given as goal

-- what is found is what stands at the last tokens, the last first
abbrev pub invariant-loop-taken : goal.invariant-loop-taken
invariant-loop-taken l =
    (l.found.items ≡ reverse (lengths_from l.layout (span l.layout (l.tokens.to - l.taken) l.tokens.to)))
    × (l.run ≡ plain_run l.layout (span l.layout (l.tokens.to - l.taken) l.tokens.to))
    × (l.count ≡ until_end (span l.layout (l.tokens.to - l.taken) l.tokens.to))
    × (l.rows.items ≡ reverse (rows_of l.layout (span l.layout (l.tokens.to - l.taken) l.tokens.to)))
