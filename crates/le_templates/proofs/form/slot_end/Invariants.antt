use Rattle.le_templates.proofs.FormLemmas.{Inside}
use Rattle.le_templates.proofs.form.slot_end.Given as goal

-- the tokens so far are words of the phrase
abbrev pub invariant-loop-end : goal.invariant-loop-end
invariant-loop-end l = Inside l.layout l.fn.from l.end l.fn.to
