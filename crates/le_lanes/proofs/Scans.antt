-- The plain scan, over one item and over several at once.
use Rattle.std.proofs.Common.{◌≡◌, ℕ, suc, ◌+◌, ◌<◌, ◌≤◌, List, [], ◌∷◌, ◌++◌, length, drop, get_or, Bool, true, false, not, cond, Some, None, sym, ap, ◌∙◌, add-one, drop-cons, arith}
use Rattle.std.specs.List.{prefix_len}
use Rattle.std.specs.Simd.Lanes.{chunk}
use Rattle.std.proofs.lemmas.Simd.{chunk-drop, length-chunk}
use Rattle.std.proofs.lemmas.List.Sums.{prefix_len-le-length}
use Rattle.std.proofs.lemmas.List.{drop_all}
use Rattle.le_lanes.specs.Next.{first_from, next_of, fails}

-- items of which none passes are scanned past
first_from-past : (p : ℕ → Bool) (at : ℕ) (xs ys : List ℕ) → prefix_len (fails p) xs ≡ length xs → first_from p at (xs ++ ys) ≡ first_from p (at + length xs) ys
first_from-past p at [] ys all = ap (λ n. first_from p n ys) (omega arith)
first_from-past p at (x ∷ xs) ys all = by (p x) all (first_from-past p (at + 1) xs ys)
  where
    by : (b : Bool) → cond (not b) (1 + prefix_len (fails p) xs) 0 ≡ suc (length xs) → (prefix_len (fails p) xs ≡ length xs → first_from p (at + 1) (xs ++ ys) ≡ first_from p (at + 1 + length xs) ys) → cond b (Some at) (first_from p (at + 1) (xs ++ ys)) ≡ first_from p (at + suc (length xs)) ys
    by true none more = absurd (omega (arith, none))
    by false some more = more (omega (arith, some)) ∙ ap (λ n. first_from p n ys) (omega arith)

-- the first item that passes is found after those that don't
first_from-found : (p : ℕ → Bool) (at : ℕ) (xs ys : List ℕ) → prefix_len (fails p) xs < length xs → first_from p at (xs ++ ys) ≡ Some (at + prefix_len (fails p) xs)
first_from-found p at [] ys less = absurd (omega (arith, less))
first_from-found p at (x ∷ xs) ys less = by (p x) less (first_from-found p (at + 1) xs ys)
  where
    by : (b : Bool) → cond (not b) (1 + prefix_len (fails p) xs) 0 < suc (length xs) → (prefix_len (fails p) xs < length xs → first_from p (at + 1) (xs ++ ys) ≡ Some (at + 1 + prefix_len (fails p) xs)) → cond b (Some at) (first_from p (at + 1) (xs ++ ys)) ≡ Some (at + cond (not b) (1 + prefix_len (fails p) xs) 0)
    by true none more = ap Some (omega arith)
    by false some more = more (omega (arith, some)) ∙ ap Some (omega arith)

-- several items at once, so many of which come before the first that passes
pub next-past_all : (p : ℕ → Bool) (xs : List ℕ) (at n r : ℕ) → at + n ≤ length xs → r ≡ prefix_len (fails p) (chunk at n xs) → n ≤ r → next_of p xs (at + n) ≡ next_of p xs at
next-past_all p xs at n r room is many =
    let long : length (chunk at n xs) ≡ n = length-chunk at n xs room in
    let most : prefix_len (fails p) (chunk at n xs) ≤ length (chunk at n xs) = prefix_len-le-length (fails p) (chunk at n xs) in
    sym (
    ap (first_from p at) (chunk-drop at n xs)
    ∙ (first_from-past p at (chunk at n xs) (drop (at + n) xs) (omega (arith, long, most, is, many))
    ∙ ap (λ m. first_from p (at + m) (drop (at + n) xs)) long))

pub next-found : (p : ℕ → Bool) (xs : List ℕ) (at n r : ℕ) → at + n ≤ length xs → r ≡ prefix_len (fails p) (chunk at n xs) → r < n → next_of p xs at ≡ Some (at + r)
next-found p xs at n r room is less =
    let long : length (chunk at n xs) ≡ n = length-chunk at n xs room in
    ap (first_from p at) (chunk-drop at n xs)
    ∙ (first_from-found p at (chunk at n xs) (drop (at + n) xs) (omega (arith, long, is, less))
    ∙ ap (λ m. Some (at + m)) (sym is))

-- one item
pub next-one : (p : ℕ → Bool) (xs : List ℕ) (at : ℕ) (x : ℕ) → at < length xs → x ≡ get_or xs at x → next_of p xs at ≡ cond (p x) (Some at) (next_of p xs (at + 1))
next-one p xs at x inside is =
    ap (first_from p at) (drop-cons xs at x inside ∙ ap (λ n. get_or xs at x ∷ drop n xs) (sym (add-one at)))
    ∙ ap (λ y. first_from p at (y ∷ drop (at + 1) xs)) (sym is)

-- no item is left
pub next-none : (p : ℕ → Bool) (xs : List ℕ) (at : ℕ) → length xs ≤ at → next_of p xs at ≡ None
next-none p xs at out = ap (first_from p at) (drop_all at xs out)
