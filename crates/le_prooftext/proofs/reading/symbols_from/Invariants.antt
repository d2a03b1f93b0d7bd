use Rattle.std.proofs.Common.{◌≡◌, drop}
use Rattle.le_prooftext.specs.Reading.{symbols_from}
use Rattle.le_prooftext.proofs.TreeLemmas.{puts}
use Rattle.le_prooftext.proofs.reading.symbols_from.Given as goal

-- the symbols so far, with those of the rest, are those of all words
abbrev pub invariant-loop-word : goal.invariant-loop-word
invariant-loop-word l = symbols_from l.words ≡ puts l.symbols.items (symbols_from (drop l.word-index l.words))
