use Rattle.std.proofs.Common.{◌≡◌, reverse}
use Rattle.le_proofs.specs.Derivations.{times}
use Rattle.le_derivations.proofs.scopes.push_times.Given as goal

-- the scope was put on top so many times so far
abbrev pub invariant-loop-done : goal.invariant-loop-done
invariant-loop-done l = reverse l.waiting.items ≡ times l.done l.scope (reverse l.fn.waiting.items)
