use Rattle.std.proofs.Common.{◌≡◌, ◌≤◌, ◌-◌, drop, length}
use Rattle.le_prooftext.specs.Reading.{line_words}
use Rattle.le_prooftext.proofs.TreeLemmas.{puts}
use Rattle.le_prooftext.proofs.line.line_words.Given as goal

-- the words so far, with those of the rest, are those of the line
abbrev pub invariant-loop-place : goal.invariant-loop-place
invariant-loop-place l = record {
  within : l.at ≤ length l.line;
  all : line_words l.line ≡ puts l.words.items (line_words (drop l.at l.line));
}

abbrev pub decreases-loop-place : goal.decreases-loop-place
decreases-loop-place l = length l.line - l.at
