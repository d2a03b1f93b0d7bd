use Rattle.std.proofs.Common.{◌≡◌, ◌+◌, [], drop, reverse}
use Rattle.le_proofs.specs.Derivations.{times}
use Rattle.le_proofs.specs.Replay.{proof, cut_fault}
use Rattle.le_check.specs.Roles.{roles_of}
use Rattle.le_check.proofs.cutting.fault_among.Given as goal

-- the first fault of all is that of the rest
abbrev pub invariant-loop-place : goal.invariant-loop-place
invariant-loop-place l = cut_fault (l.place + 1) (roles_of (reverse l.coming.items)) (drop l.place l.nodes) ≡ cut_fault 1 (times l.proofs proof []) l.nodes
