use Rattle.std.proofs.Common.{◌≡◌, map, take}
use Rattle.le_terms.specs.Variables.{replaced}
use Rattle.le_literals.specs.Changing.{by_of}
use Rattle.le_literals.proofs.changing.changed_terms.Given as goal

-- the terms so far are changed
abbrev pub invariant-loop-term : goal.invariant-loop-term
invariant-loop-term l = l.new.items ≡ map (replaced (by_of l.change)) (take l.term-index l.terms)
