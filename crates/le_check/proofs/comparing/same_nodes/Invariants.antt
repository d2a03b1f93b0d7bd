use Rattle.std.proofs.Common.{◌≡◌, drop}
use Rattle.le_proofs.specs.Replay.{same_nodes}
use Rattle.le_check.proofs.comparing.same_nodes.Given as goal

-- all are the same where the rest are
abbrev pub invariant-loop-place : goal.invariant-loop-place
invariant-loop-place l = same_nodes l.some l.others ≡ same_nodes (drop l.place l.some) (drop l.place l.others)
