use Rattle.std.proofs.Common.{◌≡◌, map, take}
use Rattle.le_terms.specs.Variables.{replaced}
use Rattle.le_clauses.specs.Numbers.{by_place}
use Rattle.le_clauses.proofs.numbering.terms_numbered.Given as goal

-- the terms so far are numbered
abbrev pub invariant-loop-term : goal.invariant-loop-term
invariant-loop-term l = l.new.items ≡ map (replaced (by_place l.vars)) (take l.term-index l.terms)
