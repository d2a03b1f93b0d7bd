-- The selected literal, looked for from a place on.
use Rattle.std.specs.Prelude.{option_map, slice_get}
use Rattle.std.proofs.Common.{◌≡◌, ℕ, zero, suc, ◌+◌, ◌<◌, Bool, true, false, cond, List, [], ◌∷◌, drop, length, get_or, Option, Some, None, refl, sym, ap, subst, ◌∙◌, arith}
use Rattle.le_terms.specs.declared.program.Literal.{Literal}
use Rattle.le_goals.specs.declared.reading.Shape.{Shape}
use Rattle.le_proofs.specs.Goals.{Picked, is_delayed, selected}

-- the selected literal's place among the literals from a place on
abbrev pub place_from : ℕ → List Literal → ℕ → Option ℕ
place_from version literals place = option_map (λ (picked : Picked Literal). place + length picked.before) (selected version (drop place literals))

drop-more : (literals : List Literal) (place : ℕ) (literal : Literal) → slice_get literals place ≡ Some literal → drop place literals ≡ literal ∷ drop (suc place) literals
drop-more [] place literal at = absurd (cc at)
drop-more (x ∷ literals) zero literal at = let same : x ≡ literal = cc at in ap (λ y. y ∷ literals) same
drop-more (x ∷ literals) (suc place) literal at = drop-more literals place literal at

drop-none : (literals : List Literal) (place : ℕ) → slice_get literals place ≡ None → drop place literals ≡ []
drop-none [] zero at = refl
drop-none [] (suc place) at = refl
drop-none (x ∷ literals) zero at = absurd (cc at)
drop-none (x ∷ literals) (suc place) at = drop-none literals place at

pub place-first : (version : ℕ) (literals : List Literal) → place_from version literals 0 ≡ option_map (λ (picked : Picked Literal). length picked.before) (selected version literals)
place-first version literals = by (selected version literals)
  where
    by : (o : Option (Picked Literal)) → option_map (λ (picked : Picked Literal). 0 + length picked.before) o ≡ option_map (λ (picked : Picked Literal). length picked.before) o
    by None = refl
    by (Some p) = ap Some (let none : 0 + length p.before ≡ length p.before = omega arith in none)

pub place-none : (version : ℕ) (literals : List Literal) (place : ℕ) → slice_get literals place ≡ None → place_from version literals place ≡ None
place-none version literals place at = ap (λ ls. option_map (λ (picked : Picked Literal). place + length picked.before) (selected version ls)) (drop-none literals place at)

pub place-here : (version : ℕ) (literals : List Literal) (place : ℕ) (literal : Literal) → slice_get literals place ≡ Some literal → is_delayed version literal ≡ false → place_from version literals place ≡ Some place
place-here version literals place literal at goes =
    ap (λ ls. option_map (λ (picked : Picked Literal). place + length picked.before) (selected version ls)) (drop-more literals place literal at)
    ∙ (by (is_delayed version literal) goes ∙ ap Some (let none : place + 0 ≡ place = omega arith in none))
  where
    by : (b : Bool) → b ≡ false → option_map (λ (picked : Picked Literal). place + length picked.before) (cond b (option_map (λ (p : Picked Literal). let q : Picked Literal = record { before = literal ∷ p.before; chosen = p.chosen; behind = p.behind } in q) (selected version (drop (suc place) literals))) (Some (let q : Picked Literal = record { before = []; chosen = literal; behind = drop (suc place) literals } in q))) ≡ Some (place + 0)
    by true h = absurd (cc h)
    by false h = refl

pub place-later : (version : ℕ) (literals : List Literal) (place : ℕ) (literal : Literal) → slice_get literals place ≡ Some literal → is_delayed version literal ≡ true → place_from version literals place ≡ place_from version literals (suc place)
place-later version literals place literal at passed =
    ap (λ ls. option_map (λ (picked : Picked Literal). place + length picked.before) (selected version ls)) (drop-more literals place literal at)
    ∙ (by (is_delayed version literal) passed ∙ more (selected version (drop (suc place) literals)))
  where
    by : (b : Bool) → b ≡ true → option_map (λ (picked : Picked Literal). place + length picked.before) (cond b (option_map (λ (p : Picked Literal). let q : Picked Literal = record { before = literal ∷ p.before; chosen = p.chosen; behind = p.behind } in q) (selected version (drop (suc place) literals))) (Some (let q : Picked Literal = record { before = []; chosen = literal; behind = drop (suc place) literals } in q)))
        ≡ option_map (λ (picked : Picked Literal). place + length picked.before) (option_map (λ (p : Picked Literal). let q : Picked Literal = record { before = literal ∷ p.before; chosen = p.chosen; behind = p.behind } in q) (selected version (drop (suc place) literals)))
    by true h = refl
    by false h = absurd (cc h)

    more : (o : Option (Picked Literal)) → option_map (λ (picked : Picked Literal). place + length picked.before) (option_map (λ (p : Picked Literal). let q : Picked Literal = record { before = literal ∷ p.before; chosen = p.chosen; behind = p.behind } in q) o) ≡ option_map (λ (picked : Picked Literal). suc place + length picked.before) o
    more None = refl
    more (Some p) = ap Some (let same : place + suc (length p.before) ≡ suc place + length p.before = omega arith in same)

-- what a shape says of the literal at a place
pub shape-some : (f : Literal → Shape) (o : Option Literal) (shape : Shape) → option_map f o ≡ Some shape → (literal : Literal) × (o ≡ Some literal) × (f literal ≡ shape)
shape-some f None shape h = absurd (cc h)
shape-some f (Some literal) shape h = (literal, refl, cc h)

pub shape-none : (f : Literal → Shape) (o : Option Literal) → option_map f o ≡ None → o ≡ None
shape-none f None h = refl
shape-none f (Some literal) h = absurd (cc h)

pub get-some : (literals : List Literal) (place : ℕ) (literal d : Literal) → slice_get literals place ≡ Some literal → (place < length literals) × (get_or literals place d ≡ literal)
get-some [] place literal d h = absurd (cc h)
get-some (x ∷ literals) zero literal d h = (omega arith, cc h)
get-some (x ∷ literals) (suc place) literal d h = let rest = get-some literals place literal d h in (let low : place < length literals = rest.0 in omega (arith, low), rest.1)

-- literals without a first one are none
pub first-none : (literals : List Literal) → slice_get literals 0 ≡ None → literals ≡ []
first-none [] h = refl
first-none (x ∷ literals) h = absurd (cc h)

pub first-some : (literals : List Literal) (literal : Literal) → slice_get literals 0 ≡ Some literal → 0 < length literals
first-some [] literal h = absurd (cc h)
first-some (x ∷ literals) literal h = omega arith
