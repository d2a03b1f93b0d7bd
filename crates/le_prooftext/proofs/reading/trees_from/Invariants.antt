use Rattle.std.proofs.Common.{◌≡◌, ◌-◌, ◌≤◌, drop, length}
use Rattle.le_prooftext.specs.Reading.{trees_from}
use Rattle.le_prooftext.proofs.TreeLemmas.{puts}
use Rattle.le_prooftext.proofs.reading.trees_from.Given as goal

-- the terms so far, with those of the rest, are those of all symbols
abbrev pub invariant-loop-at : goal.invariant-loop-at
invariant-loop-at l = record {
  all : trees_from l.symbols ≡ puts l.terms.items (trees_from (drop l.at l.symbols));
  within : l.at ≤ length l.symbols;
}

abbrev pub decreases-loop-at : goal.decreases-loop-at
decreases-loop-at l = length l.symbols - l.at
