use Rattle.std.proofs.Common.{◌≡◌, map, take}
use Rattle.le_terms.specs.Variables.{replaced}
use Rattle.le_goals.specs.Frames.{cell_term}
use Rattle.le_goals.proofs.terms.shown_terms.Given as goal

-- the terms so far are as the cells show them
abbrev pub invariant-loop-term : goal.invariant-loop-term
invariant-loop-term l = l.new.items ≡ map (replaced (cell_term l.store.now l.base)) (take l.term-index l.terms)
