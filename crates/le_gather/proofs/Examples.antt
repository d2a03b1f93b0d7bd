-- Worked examples of what is made of values.
use Rattle.std.proofs.Common.{◌≡◌, [], ◌∷◌, pos, negsuc, refl}
use Rattle.le_base.specs.declared.stop.FoldKind.TheVariants.{Sum, Number, Greatest}
use Rattle.le_terms.specs.Tree.{constant, number, variable}
use Rattle.le_gather.specs.Folds.{value, no, unbound, range, fold_of}

-- equal values are added each
pub sum_of_equals : fold_of Sum (number (pos 2) ∷ number (pos 2) ∷ number (pos 3) ∷ []) ≡ value (pos 7)
sum_of_equals = refl

-- a number above 10^18 is out of range
pub sum_above : fold_of Sum (number (pos 1000000000000000000) ∷ number (pos 1) ∷ []) ≡ range
sum_above = refl

-- the first value that isn't a number decides
pub open_first : fold_of Greatest (number (negsuc 0) ∷ variable 0 ∷ constant 0 ∷ []) ≡ unbound
open_first = refl

-- there is no greatest of no values, and their number is 0
pub greatest_of_none : fold_of Greatest [] ≡ no
greatest_of_none = refl

pub number_of_none : fold_of Number [] ≡ value (pos 0)
number_of_none = refl
