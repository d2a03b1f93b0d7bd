use Rattle.std.proofs.Common.{ap, ◌∙◌, ◌++◌, ◌-◌, ◌+◌}
use Rattle.le_english.specs.Explanations.{indent}
use Rattle.le_english.proofs.LineSteps.{indent-step}
use Rattle.le_english.proofs.lines.indent.Goals as goal

pub loop-step-preserved : goal.loop-step-preserved
loop-step-preserved c =
    ap (λ t. t ++ indent (c.args.depth - (c.loop-step._step + 1))) c.in_ok-push_str.ensures.ok
    ∙ indent-step c.loop-step.text _ c.args.depth c.loop-step._step c.loop-step-test.true c.loop-step.invariant
