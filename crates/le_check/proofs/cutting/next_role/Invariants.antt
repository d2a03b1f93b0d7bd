use Rattle.std.proofs.Common.{◌≡◌, length, reverse}
use Rattle.le_check.specs.Roles.{roles_of}
use Rattle.le_check.proofs.cutting.next_role.Given as goal

-- no role was taken away so far
abbrev pub invariant-loop-parts : goal.invariant-loop-parts
invariant-loop-parts l = roles_of (reverse l.coming.items) ≡ roles_of (reverse l.fn.coming.items)

abbrev pub decreases-loop-parts : goal.decreases-loop-parts
decreases-loop-parts l = length l.coming.items
