use Rattle.std.proofs.Common.{◌≡◌, ◌+◌, drop}
use Rattle.le_layout.specs.Words.{tokens_of}
use Rattle.le_scope.specs.Phrases.{begins_with}
use Rattle.le_scope.proofs.TokenLemmas.{span, now_of}
use Rattle.le_scope.proofs.phrase.begins_with.Given as goal

-- what is left decides
abbrev pub invariant-loop-i : goal.invariant-loop-i
invariant-loop-i l = begins_with l.layout (span l.layout (l.tokens.from + l.i) l.tokens.to) (now_of (drop l.i l.words)) ≡ begins_with l.layout (tokens_of l.layout l.tokens) (now_of l.words)
