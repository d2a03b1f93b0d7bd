use Rattle.std.proofs.Common.{◌≡◌}
use Rattle.std.specs.List.{list_all}
use Rattle.le_layout.specs.Words.{tokens_of}
use Rattle.le_scope.specs.Phrases.{is_plain}
use Rattle.le_scope.proofs.TokenLemmas.{span}
use Rattle.le_scope.proofs.phrase.are_plain.Given as goal

-- what is left decides
abbrev pub invariant-loop-at : goal.invariant-loop-at
invariant-loop-at l = list_all (is_plain l.layout) (span l.layout l.at l.at-end) ≡ list_all (is_plain l.layout) (tokens_of l.layout l.fn.tokens)
