use Rattle.std.proofs.Common.{◌≡◌, ◌-◌, ◌≤◌, ◌++◌, length, drop, flat_map, vec_len}
use Rattle.le_layout.specs.Lines.{lines_of}
use Rattle.le_layout.specs.Room.{HasRoom, StandsIn}
use Rattle.le_layout.specs.Faults.{faults_from}
use Rattle.le_layout.specs.Layout.{rows_from, lines_from}
use Rattle.le_layout.proofs.lines.scan_lines.Given as goal

-- the tokens and lines so far and those of what is left are all, and what is passed has no faults
abbrev pub invariant-loop-at : goal.invariant-loop-at
invariant-loop-at l = record {
  inside : l.at ≤ length l.chars;
  room : HasRoom l.place (length l.chars - l.at);
  lie : StandsIn l.text l.place (drop l.at l.chars);
  count : vec_len l.tokens ≤ l.at;
  faults : faults_from l.place (lines_of (drop l.at l.chars)) ≡ faults_from l.fn.from (lines_of l.chars);
  tokens : l.tokens.items ++ flat_map (λ row. row) (rows_from l.place (lines_of (drop l.at l.chars))) ≡ flat_map (λ row. row) (rows_from l.fn.from (lines_of l.chars));
  lines : l.lines.items ++ lines_from (length l.tokens.items) (rows_from l.place (lines_of (drop l.at l.chars))) ≡ lines_from 0 (rows_from l.fn.from (lines_of l.chars));
}

abbrev pub decreases-loop-at : goal.decreases-loop-at
decreases-loop-at l = length l.chars - l.at
