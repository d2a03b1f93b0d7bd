use Rattle.std.proofs.Common.{◌++◌, ap, ◌∙◌}
use Rattle.le_clauses.specs.Occurrences.{parts_vars}
use Rattle.le_clauses.proofs.ShapeLaws.{translated_done}
use Rattle.le_clauses.proofs.translate.translate.Goals as goal

pub returns : goal.returns
returns c =
    translated_done c.args.head.now c.args.pred c.args.parts.items c.in_ok-rule.rule c.in_ok-marks.marks.items _ c.last_done.result c.requires.shape (c.in_ok-rule.ensures ∙ ap (λ ps. c.args.head.now ++ parts_vars ps) c.deref.ensures.value) c.in_ok-marks.ensures c.in_ok-stack.ensures c.last_done.ensures
