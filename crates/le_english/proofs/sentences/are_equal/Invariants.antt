use Rattle.std.proofs.Common.{◌≡◌, ℕ, List, map, drop}
use Rattle.std.specs.Str.{bytes_eq}
use Rattle.le_english.specs.Lines.{capped}
use Rattle.le_english.proofs.sentences.are_equal.Given as goal

-- what is left is equal exactly where all is
abbrev pub invariant-loop-i : goal.invariant-loop-i
invariant-loop-i l = (ls : List ℕ) → l.lengths ≡ map capped ls → bytes_eq (drop l.i l.found) (drop l.i ls) ≡ bytes_eq l.found ls
