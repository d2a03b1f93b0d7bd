use Rattle.std.proofs.Common.{◌+◌, length, reverse}
use Rattle.le_proofs.specs.Replay.{replay_of}
use Rattle.le_check.specs.Left.{Means, Left}
use Rattle.le_check.proofs.replaying.replayed.Given as goal

-- what is left comes to the whole replay
abbrev pub invariant-loop : goal.invariant-loop
invariant-loop g l = Left (l.fn.steps + length l.fn.nodes) (l.steps + l.state.allowed) (Means l.fn.program l.fn.nodes (reverse l.state.frames.items) l.state.order.items l.turn) (replay_of l.fn.program l.fn.nodes)
