use Rattle.std.proofs.Common.{◌≡◌, ◌≤◌, reverse, drop, length}
use Rattle.le_english.specs.Explanations.{pending_at}
use Rattle.le_english.proofs.pending.push_literals.Given as goal

-- the stack is the literals from here on, before those that were there
abbrev pub invariant-loop-at : goal.invariant-loop-at
invariant-loop-at l = record {
  stack : reverse l.stack.items ≡ pending_at l.depth (drop l.at l.literals) (reverse l.initial.stack.items);
  within : l.at ≤ length l.literals;
}

abbrev pub decreases-loop-at : goal.decreases-loop-at
decreases-loop-at l = l.at
