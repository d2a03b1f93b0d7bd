use Rattle.std.proofs.Common.{◌≡◌, ◌++◌, reverse}
use Rattle.le_scope.specs.Parts.{parts_from, parts_of_list}
use Rattle.le_scope.proofs.TokenLemmas.{span}
use Rattle.le_scope.proofs.parts.list_parts.Given as goal

-- the symbols so far, with those of the tokens that are left, are all
abbrev pub invariant-loop-at : goal.invariant-loop-at
invariant-loop-at l = l.parts.items ++ parts_from l.at l.inside (reverse l.opened.items) (span l.layout l.at l.tokens.to) ≡ parts_of_list l.layout l.tokens
