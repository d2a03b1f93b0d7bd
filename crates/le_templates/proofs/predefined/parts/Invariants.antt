use Rattle.std.proofs.Common.{◌≡◌, map, take}
use Rattle.le_templates.specs.Written.{part_written}
use Rattle.le_templates.proofs.predefined.parts.Given as goal

-- the parts so far
abbrev pub invariant-loop-written : goal.invariant-loop-written
invariant-loop-written l = l.parts.items ≡ map part_written (take l.written-index l.row)
