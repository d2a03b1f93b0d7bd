use Rattle.std.proofs.Common.{◌≡◌, ◌++◌, map, take}
use Rattle.le_prooftext.specs.declared.word.Word.TheVariants as word
use Rattle.le_prooftext.specs.Writing.{spaced}
use Rattle.le_prooftext.proofs.writing.push_term.Given as goal

-- the symbols so far are written
abbrev pub invariant-loop-symbol : goal.invariant-loop-symbol
invariant-loop-symbol l = l.text ≡ l.initial.text ++ spaced (map (λ s. word.Symbol s) (take l.symbol-index l.symbol-items))
