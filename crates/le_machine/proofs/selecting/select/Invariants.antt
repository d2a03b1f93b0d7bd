use Rattle.std.proofs.Common.{◌≡◌, ◌+◌, drop, length, option_map}
use Rattle.le_proofs.specs.Goals.{selected}
use Rattle.le_machine.proofs.selecting.select.Given as goal

-- the selected literal is that of the rest
abbrev pub invariant-loop-place : goal.invariant-loop-place
invariant-loop-place l =
    option_map (λ picked. length picked.before) (selected l.version l.literals) ≡ option_map (λ picked. l.place + length picked.before) (selected l.version (drop l.place l.literals))
