-- What the operations on vectors hold, lane by lane.
use Rattle.std.proofs.Common.{◌≡◌, ◌==◌, ◌||◌, ℕ, suc, ◌+◌, ◌/◌, ◌%◌, ◌^◌, ◌<◌, ◌≤◌, List, [], ◌∷◌, length, map, bit_and, get_or, replicate, Bool, true, false, not, cond, eqb, refl, sym, ap, subst, ◌∙◌, w8, arith}
use Rattle.std.specs.List.{prefix_len}
use Rattle.std.specs.Simd.Lanes.{Each1, Each2, zip2, sel_l}
use Rattle.std.proofs.lemmas.Simd.{swz_l}
use Rattle.std.proofs.lemmas.Nat.{and_mask}
use Rattle.le_lanes.specs.Next.{fails, is_match}

-- a choice of 0 where a lane is a key
zeros : (key : ℕ) (xs : List ℕ) → sel_l (zip2 eqb xs (replicate (length xs) key)) (replicate (length xs) 0) xs ≡ map (λ x. cond (eqb x key) 0 x) xs
zeros key [] = refl
zeros key (x ∷ xs) = ap (λ rest. cond (eqb x key) 0 x ∷ rest) (zeros key xs)

pub zero-for : (key : ℕ) (xs : List ℕ) (n : ℕ) → length xs ≡ n → sel_l (zip2 eqb xs (replicate n key)) (replicate n 0) xs ≡ map (λ x. cond (eqb x key) 0 x) xs
zero-for key xs n long =
    let P : ℕ → Type 0 = λ m. sel_l (zip2 eqb xs (replicate m key)) (replicate m 0) xs ≡ map (λ x. cond (eqb x key) 0 x) xs in
    subst P long (zeros key xs)

-- with 0 in place of a key, the lanes that are 0 are those that match it
pub match-zero : (key x : ℕ) → ((cond (x == key) 0 x) == 0) ≡ is_match key x
match-zero key x = by (x == key) (x == 0) refl
  where
    by : (same zero_ : Bool) → (x == 0) ≡ zero_ → ((cond same 0 x) == 0) ≡ ((x == 0) || same)
    by true true is = sym (ap (λ b. b || true) is)
    by true false is = sym (ap (λ b. b || true) is)
    by false true is = is ∙ sym (ap (λ b. b || false) is)
    by false false is = is ∙ sym (ap (λ b. b || false) is)

-- a test on the images is a test on the lanes
pub prefix-map : (p q : ℕ → Bool) (f : ℕ → ℕ) → ((x : ℕ) → p (f x) ≡ q x) → (xs : List ℕ) → prefix_len (fails p) (map f xs) ≡ prefix_len (fails q) xs
prefix-map p q f same [] = refl
prefix-map p q f same (x ∷ xs) =
    ap (λ b. cond (not b) (1 + prefix_len (fails p) (map f xs)) 0) (same x)
    ∙ ap (λ n. cond (not (q x)) (1 + n) 0) (prefix-map p q f same xs)

-- a table of 32 bytes looked up by numbers below 32
looked-up : (table : List ℕ) (i : ℕ) (js : List ℕ) → i + length js ≤ 32 → Each1 (λ j. j < 32) js → swz_l w8 32 table i js ≡ map (λ j. get_or table j 0) js
looked-up table i [] room low = refl
looked-up table i (j ∷ js) room low =
    ap (λ k. get_or table k 0 ∷ swz_l w8 32 table (suc i) js) (omega (arith, room))
    ∙ ap (λ rest. get_or table j 0 ∷ rest) (looked-up table (suc i) js (omega (arith, room)) low.1)

pub looked-up_all : (table js : List ℕ) → length js ≡ 32 → Each1 (λ j. j < 32) js → swz_l w8 32 table 0 js ≡ map (λ j. get_or table j 0) js
looked-up_all table js long low = looked-up table 0 js (omega (arith, long)) low

-- a lane shifted down by some bits
abbrev pub down : ℕ → ℕ → ℕ
down a b = a / 2 ^ b

-- the three lowest bits of each lane
pub low-bits : (xs : List ℕ) → map (λ x. bit_and x 7) xs ≡ map (λ x. x % 8) xs
low-bits [] = refl
low-bits (x ∷ xs) = ap (λ n. n ∷ map (λ y. bit_and y 7) xs) (and_mask x 3) ∙ ap (λ rest. x % 8 ∷ rest) (low-bits xs)

-- the lowest bit of each lane that is shifted down
pub one-bits : (xs ys : List ℕ) → map (λ x. bit_and x 1) (zip2 down xs ys) ≡ zip2 (λ x y. x / 2 ^ y % 2) xs ys
one-bits [] ys = refl
one-bits (x ∷ xs) [] = refl
one-bits (x ∷ xs) (y ∷ ys) =
    ap (λ n. n ∷ map (λ z. bit_and z 1) (zip2 down xs ys)) (and_mask (x / 2 ^ y) 1) ∙ ap (λ rest. (x / 2 ^ y % 2) ∷ rest) (one-bits xs ys)

-- each lane of the second vector is low
pub each-second : (xs ys : List ℕ) → Each1 (λ y. y < 8) ys → Each2 (λ (x y : ℕ). y < 8) xs ys
each-second [] ys low = tt
each-second (x ∷ xs) [] low = tt
each-second (x ∷ xs) (y ∷ ys) low = (low.0, each-second xs ys low.1)

-- what follows from a fact of each lane
pub each-map : (P Q : ℕ → Type 0) (f : ℕ → ℕ) → ((x : ℕ) → P x → Q (f x)) → (xs : List ℕ) → Each1 P xs → Each1 Q (map f xs)
each-map P Q f so [] each = tt
each-map P Q f so (x ∷ xs) each = (so x each.0, each-map P Q f so xs each.1)
