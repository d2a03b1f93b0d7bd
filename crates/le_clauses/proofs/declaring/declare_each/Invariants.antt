use Rattle.std.proofs.Common.{◌≡◌, drop}
use Rattle.le_clauses.specs.Pieces.{declared_after}
use Rattle.le_clauses.proofs.declaring.declare_each.Given as goal

-- what is left is declared after the templates so far
abbrev pub invariant-loop-span : goal.invariant-loop-span
invariant-loop-span l = declared_after l.layout l.templates (drop l.span-index l.spans) ≡ declared_after l.layout l.fn.templates l.spans
