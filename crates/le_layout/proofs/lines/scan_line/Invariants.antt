use Rattle.std.proofs.Common.{◌≡◌, ◌+◌, ◌-◌, ◌≤◌, ◌++◌, length, drop, vec_len}
use Rattle.le_layout.specs.Places.{place_behind}
use Rattle.le_layout.specs.Pieces.{pieces_of}
use Rattle.le_layout.specs.Room.{HasRoom, StandsIn}
use Rattle.le_layout.specs.Faults.{faults_at}
use Rattle.le_layout.specs.Layout.{tokens_at}
use Rattle.le_layout.proofs.lines.scan_line.Given as goal

-- the tokens so far and those of what is left of the line are the line's, and what is passed has no faults
abbrev pub invariant-loop-at : goal.invariant-loop-at
invariant-loop-at l = record {
  inside : l.at ≤ length l.line;
  room : HasRoom l.place (length l.line - l.at);
  lie : StandsIn l.text l.place (drop l.at l.line);
  place : place_behind l.place (drop l.at l.line) ≡ place_behind l.fn.from l.line;
  faults : faults_at l.place (pieces_of (drop l.at l.line)) ≡ faults_at l.fn.from (pieces_of l.line);
  tokens : l.tokens.items ++ tokens_at l.place (pieces_of (drop l.at l.line)) ≡ l.fn.tokens.items ++ tokens_at l.fn.from (pieces_of l.line);
  count : vec_len l.tokens ≤ vec_len l.fn.tokens + l.at;
}

abbrev pub decreases-loop-at : goal.decreases-loop-at
decreases-loop-at l = length l.line - l.at
