use Rattle.std.proofs.Common.{◌≡◌, ◌++◌}
use Rattle.le_subst.specs.Unifiers.{images_by}
use Rattle.le_subst.proofs.substitution.images_by.Given as goal

-- the images so far, with those of the pairs that are left, are all of them
abbrev pub invariant-loop-var : goal.invariant-loop-var
invariant-loop-var l = l.images.items ++ images_by l.map.entries l.var-iterator ≡ images_by l.map.entries l.first.entries
