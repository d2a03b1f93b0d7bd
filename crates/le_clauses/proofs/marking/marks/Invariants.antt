use Rattle.std.proofs.Common.{◌≡◌, ◌++◌, None, [], ◌∷◌, reverse, vec_len}
use Rattle.le_clauses.specs.Walks.{marked}
use Rattle.le_clauses.proofs.marking.marks.Given as goal

-- the marks so far with those of the parts that are left are all
abbrev pub invariant-loop-part : goal.invariant-loop-part
invariant-loop-part l = l.marks.items ++ marked l.rule (reverse l.modes.items) l.next (reverse l.rest.items) ≡ marked l.rule (None ∷ []) l.pred l.fn.parts.items

abbrev pub decreases-loop-part : goal.decreases-loop-part
decreases-loop-part l = vec_len l.rest
