-- What the folds mean, in the words of arithmetic.
use Rattle.std.proofs.Common.{◌≡◌, List, [], ◌∷◌, ◌++◌, map, ℤ, pos, ◌+ℤ◌, ◌≤ℤ◌, Bool, true, false, cond, Some, ◌⊎◌, inl, inr, ⊎_elim, refl, ap, ◌∙◌, arith}
use Rattle.std.specs.Prelude.{int_lt}
use Rattle.std.specs.List.{AllByRecursion}
use Rattle.std.proofs.lemmas.Int.{ints, clamps}
use Rattle.le_terms.specs.Tree.{Tree, constant, number, date, variable, nil, cell}
use Rattle.le_gather.specs.Folds.{FoldAnswer, value, in_range, greater, with_numbers, greatest_of, if_no_number}
use Rattle.le_gather.specs.Laws.{total, IsOneOf, FoldsMean}

-- numbers are added one after another
added : (so_far : ℤ) (zs : List ℤ) → with_numbers (λ x y. x +ℤ y) in_range so_far (map number zs) ≡ in_range (so_far +ℤ total zs)
added so_far [] = let same : so_far ≡ so_far +ℤ pos 0 = omega (arith, ints) in ap in_range same
added so_far (z ∷ zs) = let same : so_far +ℤ z +ℤ total zs ≡ so_far +ℤ (z +ℤ total zs) = omega (arith, ints) in added (so_far +ℤ z) zs ∙ ap in_range same

-- the greater of two numbers is one of them, and neither exceeds it
either : (x y : ℤ) → (greater x y ≡ x) ⊎ (greater x y ≡ y)
either x y = by (int_lt x y)
  where
    by : (b : Bool) → (cond b y x ≡ x) ⊎ (cond b y x ≡ y)
    by true = inr refl
    by false = inl refl

no_less : (x y : ℤ) → (x ≤ℤ greater x y) × (y ≤ℤ greater x y)
no_less x y = (omega (arith, ints, clamps), omega (arith, ints, clamps))

-- the greatest of a number and others
pub record Greatest (m : ℤ) (zs : List ℤ) : Type 0 where
  pub most : ℤ
  pub found : with_numbers greater value m (map number zs) ≡ value most
  pub one : (most ≡ m) ⊎ IsOneOf most zs
  pub first : m ≤ℤ most
  pub others : AllByRecursion (λ z. z ≤ℤ most) zs

greatest_from : (m : ℤ) (zs : List ℤ) → Greatest m zs
greatest_from m [] = record { most = m; found = refl; one = inl refl; first = omega (arith, ints); others = tt }
greatest_from m (z ∷ zs) =
    let rest = greatest_from (greater m z) zs in
    let low = no_less m z in
    let m_low : m ≤ℤ greater m z = low.0 in
    let z_low : z ≤ℤ greater m z = low.1 in
    let most : greater m z ≤ℤ rest.most = rest.first in
    record {
      most = rest.most;
      found = rest.found;
      one = ⊎_elim (λ same. ⊎_elim (λ e. inl (same ∙ e)) (λ e. inr (inl (same ∙ e))) (either m z)) (λ among. inr (inr among)) rest.one;
      first = omega (arith, ints, m_low, most);
      others = (omega (arith, ints, z_low, most), rest.others);
    }

-- a value that isn't a number decides
decided_here : (step : ℤ → ℤ → ℤ) (all : ℤ → FoldAnswer) (so_far : ℤ) (other : Tree) (rest : List Tree) (answer : FoldAnswer) → if_no_number other ≡ Some answer → with_numbers step all so_far (other ∷ rest) ≡ answer
decided_here step all so_far (number z) rest answer is = absurd (cc is)
decided_here step all so_far (variable v) rest answer is = cc is
decided_here step all so_far (constant n) rest answer is = cc is
decided_here step all so_far (date d) rest answer is = cc is
decided_here step all so_far nil rest answer is = cc is
decided_here step all so_far (cell head tail) rest answer is = cc is

decided : (step : ℤ → ℤ → ℤ) (all : ℤ → FoldAnswer) (so_far : ℤ) (zs : List ℤ) (other : Tree) (rest : List Tree) (answer : FoldAnswer) → if_no_number other ≡ Some answer → with_numbers step all so_far (map number zs ++ other ∷ rest) ≡ answer
decided step all so_far [] other rest answer is = decided_here step all so_far other rest answer is
decided step all so_far (z ∷ zs) other rest answer is = decided step all (step so_far z) zs other rest answer is

greatest_decided : (zs : List ℤ) (other : Tree) (rest : List Tree) (answer : FoldAnswer) → if_no_number other ≡ Some answer → greatest_of (map number zs ++ other ∷ rest) ≡ answer
greatest_decided [] (number z) rest answer is = absurd (cc is)
greatest_decided [] (variable v) rest answer is = cc is
greatest_decided [] (constant n) rest answer is = cc is
greatest_decided [] (date d) rest answer is = cc is
greatest_decided [] nil rest answer is = cc is
greatest_decided [] (cell head tail) rest answer is = cc is
greatest_decided (z ∷ zs) other rest answer is = decided greater value z zs other rest answer is

pub folds-mean : FoldsMean
folds-mean = record {
  sum = λ zs. let same : pos 0 +ℤ total zs ≡ total zs = omega (arith, ints) in added (pos 0) zs ∙ ap in_range same;
  greatest = λ z zs. let all = greatest_from z zs in (all.most, all.found, all.one, (all.first, all.others));
  sum_decided = λ zs other rest answer is. decided (λ x y. x +ℤ y) in_range (pos 0) zs other rest answer is;
  greatest_decided = λ zs other rest answer is. greatest_decided zs other rest answer is;
}
