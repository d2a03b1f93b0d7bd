use Rattle.std.proofs.Common.{◌≡◌, map, take}
use Rattle.le_templates.specs.Written.{row_written}
use Rattle.le_templates.proofs.predefined.templates.Given as goal

-- the templates so far
abbrev pub invariant-loop-row : goal.invariant-loop-row
invariant-loop-row l = l.templates.items ≡ map (λ row. row_written row.now) (take l.row-index l.rows)
