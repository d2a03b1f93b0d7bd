use Rattle.std.proofs.Common.{◌≡◌, drop}
use Rattle.le_proofs.specs.Replay.{first_other}
use Rattle.le_check.proofs.comparing.first_other.Given as goal

-- the first other of all is that of the rest
abbrev pub invariant-loop-number : goal.invariant-loop-number
invariant-loop-number l = first_other l.expected l.nodes l.order ≡ first_other l.expected l.nodes (drop l.number-index l.order)
