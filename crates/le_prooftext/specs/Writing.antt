-- What is written of a line piece by piece.
use Rattle.std.specs.Prelude.{ℕ, List, [], ◌∷◌, ◌++◌}
use Rattle.le_prooftext.specs.declared.word.Word.{Word}
use Rattle.le_prooftext.specs.Words.{word_text}

-- words that follow a first one on a line: each with a space before it
abbrev pub spaced : List Word → List ℕ
spaced [] = []
spaced (w ∷ ws) = 32 ∷ (word_text w ++ spaced ws)
