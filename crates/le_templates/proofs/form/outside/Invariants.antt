use Rattle.std.proofs.Common.{◌≡◌, ◌≤◌, ◌-◌}
use Rattle.le_layout.specs.Words.{tokens_of}
use Rattle.le_templates.specs.Form.{outside}
use Rattle.le_templates.proofs.FormLemmas.{walked}
use Rattle.le_templates.proofs.form.outside.Given as goal

-- the parts so far, with those that are left, are all parts
abbrev pub invariant-loop-at : goal.invariant-loop-at
invariant-loop-at l = (l.fn.span.from ≤ l.at) × (l.at ≤ l.fn.span.to) × (walked l.layout l.parts.items l.at l.fn.span.to ≡ outside l.layout (tokens_of l.layout l.fn.span))

abbrev pub decreases-loop-at : goal.decreases-loop-at
decreases-loop-at l = l.fn.span.to - l.at
