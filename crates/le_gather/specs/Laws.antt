-- What the folds mean, in the words of arithmetic.
use Rattle.std.specs.Prelude.{◌≡◌, List, [], ◌∷◌, ◌++◌, map, ℤ, pos, ◌+ℤ◌, ◌≤ℤ◌, Some, ◌⊎◌}
use Rattle.std.specs.List.{AllByRecursion}
use Rattle.le_base.specs.declared.stop.FoldKind.TheVariants.{Sum, Greatest}
use Rattle.le_terms.specs.Tree.{Tree, number}
use Rattle.le_gather.specs.Folds.{FoldAnswer, value, in_range, if_no_number, fold_of}

-- the sum of some numbers
abbrev pub total : List ℤ → ℤ
total [] = pos 0
total (z ∷ zs) = z +ℤ total zs

-- a number is the first of some numbers, or among those that follow it
abbrev pub IsOneOf : ℤ → List ℤ → Type 0
IsOneOf n [] = ⊥
IsOneOf n (z ∷ zs) = (n ≡ z) ⊎ IsOneOf n zs

-- of numbers alone the sum is their sum, and the greatest is one of them that none exceeds; the first value that isn't a number decides
pub record FoldsMean : Type 0 where
  pub sum : (zs : List ℤ) → fold_of Sum (map number zs) ≡ in_range (total zs)
  pub greatest : (z : ℤ) (zs : List ℤ) → (n : ℤ) × (fold_of Greatest (map number (z ∷ zs)) ≡ value n) × IsOneOf n (z ∷ zs) × AllByRecursion (λ m. m ≤ℤ n) (z ∷ zs)
  pub sum_decided : (zs : List ℤ) (other : Tree) (rest : List Tree) (answer : FoldAnswer) → if_no_number other ≡ Some answer → fold_of Sum (map number zs ++ other ∷ rest) ≡ answer
  pub greatest_decided : (zs : List ℤ) (other : Tree) (rest : List Tree) (answer : FoldAnswer) → if_no_number other ≡ Some answer → fold_of Greatest (map number zs ++ other ∷ rest) ≡ answer
