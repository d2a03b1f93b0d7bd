use Rattle.std.proofs.Common.{◌≡◌, [], drop}
use Rattle.le_clauses.specs.Pieces.{declared_after, template_spans}
use Rattle.le_clauses.proofs.declaring.declared.Given as goal

-- what is left is declared after the templates so far
abbrev pub invariant-loop-section : goal.invariant-loop-section
invariant-loop-section l = declared_after l.layout l.templates (template_spans (drop l.section-index l.sections)) ≡ declared_after l.layout [] (template_spans l.sections)
