use Rattle.std.proofs.Common.{◌≡◌, ◌*◌, ◌^◌, drop, pos, ◌+ℤ◌, ◌-ℤ◌, ◌≤ℤ◌}
use Rattle.le_gather.specs.Folds.{with_numbers, in_range}
use Rattle.le_gather.proofs.folding.sum_of.Given as goal

-- what is made of the sum so far and the values that are left is what is made of all, and so many values have no greater sum
abbrev pub invariant-loop-value : goal.invariant-loop-value
invariant-loop-value l = record {
  same : with_numbers (λ x y. x +ℤ y) in_range l.sum (drop l.value-index l.values) ≡ with_numbers (λ x y. x +ℤ y) in_range (pos 0) l.values;
  low : (pos 0 -ℤ pos (l.value-index * 10 ^ 18)) ≤ℤ l.sum;
  high : l.sum ≤ℤ pos (l.value-index * 10 ^ 18);
}
