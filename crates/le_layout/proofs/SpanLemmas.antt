-- Spans of a list, taken from the left.
use Rattle.std.proofs.Common.{◌≡◌, ℕ, suc, ◌+◌, ◌-◌, ◌<◌, ◌≤◌, List, [], ◌∷◌, length, get_or, take, drop, slice_range, ap, ◌∙◌, arith}
use Rattle.std.proofs.lemmas.List.{drop_more}

-- a span that isn't empty is its first item and the rest
pub slice_more : {X : Type 0} (xs : List X) (at to : ℕ) (d : X) → at < to → to ≤ length xs → slice_range xs at to ≡ get_or xs at d ∷ slice_range xs (at + 1) to
slice_more xs at to d low high =
    let e : to - at ≡ suc (to - (at + 1)) = omega arith in
    ap (λ n. take n (drop at xs)) e ∙ ap (take (suc (to - (at + 1)))) (drop_more xs at d (omega arith))

-- an empty span
pub slice_none : {X : Type 0} (xs : List X) (at to : ℕ) → to ≤ at → slice_range xs at to ≡ []
slice_none xs at to h = let e : to - at ≡ 0 = omega arith in ap (λ n. take n (drop at xs)) e
