use Rattle.le_templates.proofs.FormLemmas.{Begun}
use Rattle.le_templates.proofs.form.begins_with.Given as goal

-- the rest decides as the whole does
abbrev pub invariant-loop-i : goal.invariant-loop-i
invariant-loop-i l = Begun l.parts l.words l.i
