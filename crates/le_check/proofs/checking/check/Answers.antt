use Rattle.std.proofs.Common.{ap, ◌∙◌}
use Rattle.le_proofs.specs.Replay.{verdict_of}
use Rattle.le_check.proofs.Judging.{cut-refuses, replay-refuses, through}
use Rattle.le_check.proofs.checking.check.Goals as goal

pub returns-in-Some-clause-exact : goal.returns-in-Some-clause-exact
returns-in-Some-clause-exact g c =
    c.refused.ensures
    ∙ (cut-refuses c.args.program.now c.as_slice-nodes.result.now c.in_ok-fault.field-0 c.in_ok-fault.ensures c.in-Some.fault c.in-Some.is
    ∙ ap (verdict_of c.args.program.now) c.as_slice-nodes.ensures)

pub returns-in-Stopped-clause-exact : goal.returns-in-Stopped-clause-exact
returns-in-Stopped-clause-exact g c =
    c.refused-in-Stopped.ensures
    ∙ (replay-refuses c.args.program.now c.as_slice-nodes.result.now c.in_ok-fault.field-0 c.in_ok-fault.ensures c.in_default.not-Some c.in_ok-fault-2.field-0 c.in_ok-fault-2.ensures.exact c.in-Stopped.fault c.in-Stopped.is
    ∙ ap (verdict_of c.args.program.now) c.as_slice-nodes.ensures)

pub returns-clause-exact : goal.returns-clause-exact
returns-clause-exact g c = through c.args.program.now c.as_slice-nodes.result.now c.in_ok-fault.field-0 c.in_ok-fault.ensures c.in_default.not-Some c.in_ok-fault-2.field-0 c.in_ok-fault-2.ensures.exact c.in-Through.proven c.compare.result c.args.derivation.now.nodes c.as_slice-nodes.ensures c.in-Through.is c.compare.ensures
