use Rattle.std.proofs.Common.{◌≡◌, ◌≤◌, ◌++◌, length, take, drop}
use Rattle.le_match.specs.Readings.{readings_by}
use Rattle.le_match.proofs.choosing.push_readings.Given as goal

abbrev pub invariant-loop-lengths : goal.invariant-loop-lengths
invariant-loop-lengths l = record {
  few : length l.readings.items ≤ 2;
  best : take 2 (l.readings.items ++ readings_by l.pred (drop l.lengths-index l.ways)) ≡ take 2 (l.fn.readings.items ++ readings_by l.pred l.ways);
}
