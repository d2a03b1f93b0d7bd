use Rattle.std.proofs.Common.{◌≡◌, ◌-◌, length}
use Rattle.le_lanes.specs.Next.{next_of, is_in}
use Rattle.le_lanes.proofs.classes.next_in_singly.Given as goal

-- the scan from here on gives what the whole scan gives
abbrev pub invariant-loop-at : goal.invariant-loop-at
invariant-loop-at l = next_of (is_in l.class) l.bytes l.at ≡ next_of (is_in l.class) l.bytes l.from

abbrev pub decreases-loop-at : goal.decreases-loop-at
decreases-loop-at l = length l.bytes - l.at
