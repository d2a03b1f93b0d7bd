use Rattle.std.proofs.Common.{drop, sym, ◌∙◌}
use Rattle.le_tool.proofs.ReportLemmas.{values_end}
use Rattle.le_tool.proofs.report.push_value_lines.Goals as goal

pub returns-else-at-values : goal.returns-else-at-values
returns-else-at-values c =
    sym (values_end c.args.whole.now (drop c.loop-at.at c.args.asked.now) c.args.values.now c.loop-at.text c.loop-at.at c.if-at-values.false) ∙ c.loop-at.invariant
