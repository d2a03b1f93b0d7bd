use Rattle.std.proofs.Common.{◌≡◌, ◌-◌, ◌≤◌, length, take}
use Rattle.std.specs.Io.KnownBytes.{Appends}
use Rattle.le_proofs.specs.Search.{answers_of}
use Rattle.le_tool.specs.Report.{answers_text}
use Rattle.le_tool.proofs.answers.say_answers.Given as goal

-- the answers so far are written, and the machine gave as many
abbrev pub invariant-loop-given : goal.invariant-loop-given
invariant-loop-given g l =
    (l.machine.program ≡ l.fn.program) × (l.machine.budget ≡ l.fn.budget) × (l.machine.given ≡ l.given)
    × (l.given ≤ l.fn.most) × (l.given ≤ length (answers_of l.fn.program l.fn.budget))
    × Appends (g.K.Sink.written l.initial.out) (g.K.Sink.written l.out) (answers_text l.fn.detail l.fn.whole l.fn.program 0 (take l.given (answers_of l.fn.program l.fn.budget)))
    × (g.K.Sink.faults l.initial.out ≤ g.K.Sink.faults l.out)

abbrev pub decreases-loop-given : goal.decreases-loop-given
decreases-loop-given g l = l.most - l.given
