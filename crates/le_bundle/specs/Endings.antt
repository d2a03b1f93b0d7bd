-- The last line of a report or a bundle, which says how the search ended: this project's profile.
use Rattle.std.specs.Prelude.{ℕ, List, [], ◌++◌, codes, decimal}
use Rattle.le_proofs.specs.declared.next.Next.{Next}
use Rattle.le_proofs.specs.declared.next.Next.TheVariants.{Answer, Done, Floundered, OutOfRange, Spent}

-- how a search ended, with its budget; an answer is no end
abbrev pub end_words : ℕ → Next → List ℕ
end_words budget Done = codes "no more answers"
end_words budget (Floundered line) = codes "floundered at line " ++ decimal line
end_words budget (OutOfRange line) = codes "out of range at line " ++ decimal line
end_words budget Spent = codes "budget spent after " ++ (decimal budget ++ codes " selections")
end_words budget Answer = []

-- that as many answers were found as were asked for
abbrev pub stopped_words : ℕ → List ℕ
stopped_words most = codes "stopped after " ++ (decimal most ++ codes " answers")
