use Rattle.std.proofs.Common.{◌≡◌, map, take}
use Rattle.le_store.specs.Shown.{term_in}
use Rattle.le_goals.proofs.goals.answers.asked_terms.Given as goal

-- the terms so far
abbrev pub invariant-loop-one : goal.invariant-loop-one
invariant-loop-one l = l.terms.items ≡ map (λ one. term_in l.store.now one.var) (take l.one-index l.asked)
