-- One key stands for one skeleton, and where the last word of a phrase begins.
use Rattle.std.proofs.Common.{◌≡◌, ℕ, zero, suc, ◌-◌, ◌<◌, ◌≤◌, ◌==◌, Bool, true, false, cond, ◌||◌, List, [], ◌∷◌, ◌++◌, length, flat_map, get_or, take, drop, take_all, Option, None, Some, sym, refl, ap, ap₂, ◌∙◌, arith, length-drop}
use Rattle.std.specs.List.{list_any}
use Rattle.le_templates.specs.declared.part.Part.{Part}
use Rattle.le_templates.specs.Skeletons.{skeleton, skeleton_part, word_key, part_key, key_of, last_word}

-- a word's key ends where its 0 stands
word_split : (u v r s : List ℕ) → word_key u ++ r ≡ word_key v ++ s → (u ≡ v) × (r ≡ s)
word_split [] [] r s e = (refl, ap (drop 1) e)
word_split [] (b ∷ v) r s e = absurd (let h : 0 ≡ 1 = ap (λ xs. get_or xs 0 9) e in omega (arith, h))
word_split (a ∷ u) [] r s e = absurd (let h : 1 ≡ 0 = ap (λ xs. get_or xs 0 9) e in omega (arith, h))
word_split (a ∷ u) (b ∷ v) r s e =
    let rest = word_split u v r s (ap (drop 2) e) in
    let first : a ≡ b = ap (λ xs. get_or xs 1 9) e in
    (ap₂ (λ x xs. x ∷ xs) first rest.0, rest.1)

some_key : (w r : List ℕ) → 0 < length (word_key w ++ r)
some_key [] r = omega arith
some_key (b ∷ w) r = omega arith

no_two : (w r : List ℕ) → get_or (word_key w ++ r) 0 9 ≤ 1
no_two [] r = omega arith
no_two (b ∷ w) r = omega arith

-- equal keys are of equal skeletons
key_split : (a b : List (Option (List ℕ))) → flat_map part_key a ≡ flat_map part_key b → a ≡ b
key_split [] [] e = refl
key_split [] (None ∷ b) e = absurd (let h : 0 ≡ length (2 ∷ flat_map part_key b) = ap length e in omega (arith, h))
key_split [] (Some w ∷ b) e = absurd (let h : 0 ≡ length (word_key w ++ flat_map part_key b) = ap length e in omega (arith, h, some_key w (flat_map part_key b)))
key_split (None ∷ a) [] e = absurd (let h : length (2 ∷ flat_map part_key a) ≡ 0 = ap length e in omega (arith, h))
key_split (Some w ∷ a) [] e = absurd (let h : length (word_key w ++ flat_map part_key a) ≡ 0 = ap length e in omega (arith, h, some_key w (flat_map part_key a)))
key_split (None ∷ a) (None ∷ b) e = ap (λ xs. None ∷ xs) (key_split a b (ap (drop 1) e))
key_split (None ∷ a) (Some w ∷ b) e = absurd (let h : 2 ≡ get_or (word_key w ++ flat_map part_key b) 0 9 = ap (λ xs. get_or xs 0 9) e in omega (arith, h, no_two w (flat_map part_key b)))
key_split (Some w ∷ a) (None ∷ b) e = absurd (let h : get_or (word_key w ++ flat_map part_key a) 0 9 ≡ 2 = ap (λ xs. get_or xs 0 9) e in omega (arith, h, no_two w (flat_map part_key a)))
key_split (Some v ∷ a) (Some w ∷ b) e =
    let parts = word_split v w (flat_map part_key a) (flat_map part_key b) e in
    ap₂ (λ x xs. Some x ∷ xs) parts.0 (key_split a b parts.1)

skeleton_key : (parts : List Part) → flat_map (λ part. part_key (skeleton_part part)) parts ≡ flat_map part_key (skeleton parts)
skeleton_key [] = refl
skeleton_key (p ∷ ps) = ap (λ ks. part_key (skeleton_part p) ++ ks) (skeleton_key ps)

pub skeleton_from_key : (a b : List Part) → key_of a ≡ key_of b → skeleton a ≡ skeleton b
unfolding key_of
skeleton_from_key a b e = key_split (skeleton a) (skeleton b) (sym (skeleton_key a) ∙ e ∙ skeleton_key b)

pub key_from_skeleton : (a b : List Part) → skeleton a ≡ skeleton b → key_of a ≡ key_of b
unfolding key_of
key_from_skeleton a b e = skeleton_key a ∙ ap (flat_map part_key) e ∙ sym (skeleton_key b)

-- ---- the last word

abbrev pub spaces : List ℕ → Bool
spaces xs = list_any (λ c. c == 32) xs

last_whole : (xs : List ℕ) → spaces xs ≡ false → last_word xs ≡ xs
last_whole [] e = refl
last_whole (b ∷ bs) e = ap (λ c. cond c (last_word bs) (b ∷ bs)) e

either_true : (b : Bool) → (b || true) ≡ true
either_true true = refl
either_true false = refl

space_at : (xs : List ℕ) (n : ℕ) → n < length xs → get_or xs n 0 ≡ 32 → spaces xs ≡ true
space_at [] n h e = absurd (omega arith)
space_at (b ∷ bs) zero h e = ap (λ c. (c == 32) || spaces bs) e
space_at (b ∷ bs) (suc n) h e = ap (λ c. (b == 32) || c) (space_at bs n (omega arith) e) ∙ either_true (b == 32)

last_behind : (xs : List ℕ) (n : ℕ) → n < length xs → get_or xs n 0 ≡ 32 → spaces (drop (suc n) xs) ≡ false → last_word xs ≡ drop (suc n) xs
last_behind [] n h e none = absurd (omega arith)
last_behind (b ∷ bs) zero h e none =
    ap (λ c. cond c (last_word bs) (b ∷ bs)) (space_at (b ∷ bs) zero h e) ∙ last_whole bs none
last_behind (b ∷ bs) (suc n) h e none =
    ap (λ c. cond c (last_word bs) (b ∷ bs)) (space_at (b ∷ bs) (suc n) h e) ∙ last_behind bs n (omega arith) e none

pub last_found : (xs : List ℕ) (from m : ℕ) → from ≡ suc m → from ≤ length xs → get_or xs m 0 ≡ 32 → spaces (drop from xs) ≡ false → take (length xs - from) (drop from xs) ≡ last_word xs
last_found xs from m is high e none =
    take_all (length xs - from) (drop from xs) (omega (arith, length-drop from xs))
    ∙ ap (λ k. drop k xs) is
    ∙ sym (last_behind xs m (omega arith) e (ap (λ k. spaces (drop k xs)) (sym is) ∙ none))

pub last_all : (xs : List ℕ) (from : ℕ) → from ≤ 0 → spaces (drop from xs) ≡ false → take (length xs - from) (drop from xs) ≡ last_word xs
last_all xs from low none =
    let z : from ≡ 0 = omega arith in
    take_all (length xs - from) (drop from xs) (omega (arith, length-drop from xs))
    ∙ ap (λ k. drop k xs) z
    ∙ sym (last_whole xs (ap (λ k. spaces (drop k xs)) (sym z) ∙ none))
