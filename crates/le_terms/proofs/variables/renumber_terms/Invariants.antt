use Rattle.std.proofs.Common.{◌≡◌, map, take}
use Rattle.le_terms.specs.Tree.{variable}
use Rattle.le_terms.specs.Variables.{replaced, place_in}
use Rattle.le_terms.proofs.variables.renumber_terms.Given as goal

-- the terms so far are renumbered
abbrev pub invariant-loop-term : goal.invariant-loop-term
invariant-loop-term l = l.new.items ≡ map (replaced (λ v. variable (place_in l.vars.keys v))) (take l.term-index l.terms)
