use Rattle.std.proofs.Common.{◌≡◌, ◌-◌, length}
use Rattle.le_lanes.specs.Next.{next_of, is_match}
use Rattle.le_lanes.proofs.keys.next_key.Given as goal

-- the scan from here on gives what the whole scan gives
abbrev pub invariant-loop-at : goal.invariant-loop-at
invariant-loop-at l = next_of (is_match l.key) l.keys l.at ≡ next_of (is_match l.key) l.keys l.from

abbrev pub decreases-loop-at : goal.decreases-loop-at
decreases-loop-at l = length l.keys - l.at
