use Rattle.std.proofs.Common.{◌≡◌, ◌<◌, ℕ, zero, suc, List, [], ◌∷◌, ◌++◌, length, slice_index_or, Some, refl, ap, ◌∙◌, eqb-true, arith}
use Rattle.std.specs.List.{slice_get}
use Rattle.le_check.proofs.counting.can_compute.Goals as goal

-- a number at a place of a list's front
get-front : (xs ys : List ℕ) (n : ℕ) → n < length xs → slice_get (xs ++ ys) n ≡ Some (slice_index_or xs n 0)
get-front [] ys n h = absurd (omega (arith, h))
get-front (x ∷ xs) ys zero h = refl
get-front (x ∷ xs) ys (suc n) h = let h' : n < length xs = omega (arith, h) in get-front xs ys n h'

pub returns-then-pred-lt18 : goal.returns-then-pred-lt18
returns-then-pred-lt18 c = λ same.
    let low : c.args.atom.now.pred < 18 = c.if-pred-lt18.true in
    let length-is : slice_index_or (2 ∷ 2 ∷ 2 ∷ 2 ∷ 2 ∷ 2 ∷ 2 ∷ 2 ∷ 2 ∷ 2 ∷ 3 ∷ 3 ∷ 3 ∷ 3 ∷ 3 ∷ 3 ∷ 3 ∷ 2 ∷ []) c.args.atom.now.pred 0 ≡ length c.as_slice.result.now = eqb-true _ _ same in
    (low, get-front (2 ∷ 2 ∷ 2 ∷ 2 ∷ 2 ∷ 2 ∷ 2 ∷ 2 ∷ 2 ∷ 2 ∷ 3 ∷ 3 ∷ 3 ∷ 3 ∷ 3 ∷ 3 ∷ 3 ∷ 2 ∷ []) (2 ∷ 3 ∷ []) c.args.atom.now.pred low ∙ ap Some (length-is ∙ ap length c.as_slice.ensures))
