use Rattle.std.proofs.Common.{◌≡◌, drop}
use Rattle.le_gather.specs.Folds.{with_numbers, greater, value}
use Rattle.le_gather.proofs.folding.greatest_of.Given as goal

-- what is made of the greatest so far and the values that are left is what is made of all
abbrev pub invariant-loop-value : goal.invariant-loop-value
invariant-loop-value l = with_numbers greater value l.greatest (drop l.value-index l.values) ≡ with_numbers greater value l.first l.values
