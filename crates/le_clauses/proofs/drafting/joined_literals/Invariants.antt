use Rattle.std.proofs.Common.{◌≡◌, ◌++◌, reverse, vec_len}
use Rattle.std.specs.List.{flat_map}
use Rattle.le_clauses.specs.declared.draft.Body.{Body}
use Rattle.le_clauses.proofs.drafting.joined_literals.Given as goal

-- the literals so far with those of what is left are all
abbrev pub invariant-loop-body : goal.invariant-loop-body
invariant-loop-body l = l.literals.items ++ flat_map (λ (b : Body). b.literals) (reverse l.rest.items) ≡ flat_map (λ (b : Body). b.literals) l.fn.bodies.items

abbrev pub decreases-loop-body : goal.decreases-loop-body
decreases-loop-body l = vec_len l.rest
