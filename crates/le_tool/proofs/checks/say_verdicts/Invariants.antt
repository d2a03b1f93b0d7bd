use Rattle.std.proofs.Common.{length, ◌-◌, ◌≤◌}
use Rattle.le_tool.specs.Checks.{certificates_report}
use Rattle.le_tool.proofs.ChecksLemmas.{IsFront, report_from}
use Rattle.le_tool.proofs.checks.say_verdicts.Given as goal

-- what was written is the front of the report, and the rest is that of the derivations from this place on
abbrev pub invariant-loop-at : goal.invariant-loop-at
invariant-loop-at g l =
    IsFront (g.K.Sink.written l.initial.out) (g.K.Sink.written l.out) (certificates_report l.fn.whole l.fn.program 0 l.fn.derivations) (report_from l.fn.whole l.fn.program l.at l.fn.derivations)
    × (g.K.Sink.faults l.initial.out ≤ g.K.Sink.faults l.out)

abbrev pub decreases-loop-at : goal.decreases-loop-at
decreases-loop-at g l = length l.fn.derivations - l.at
