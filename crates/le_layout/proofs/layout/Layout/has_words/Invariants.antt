use Rattle.le_layout.proofs.WordsLemmas.{Begun}
use Rattle.le_layout.proofs.layout.Layout.has_words.Given as goal

-- the words that are left decide as all words do
abbrev pub invariant-loop-i : goal.invariant-loop-i
invariant-loop-i l = Begun l.self l.token l.words l.i
