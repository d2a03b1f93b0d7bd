-- Entering texts, and finding them again.
use Rattle.std.proofs.Common.{◌≡◌, ℕ, ◌<◌, Bool, true, false, cond, ◌||◌, List, [], ◌∷◌, ◌++◌, length, map, get_or, zero, suc, sym, refl, ap, ◌∙◌, arith}
use Rattle.std.proofs.lemmas.List.{map-append}
use Rattle.std.specs.List.{list_any}
use Rattle.std.specs.Str.{bytes_eq}
use Rattle.le_templates.specs.Walks.{has, entered}

pub any-map : {X Y : Type 0} (p : Y → Bool) (f : X → Y) (xs : List X) → list_any p (map f xs) ≡ list_any (λ x. p (f x)) xs
any-map p f [] = refl
any-map p f (x ∷ xs) = ap (λ b. p (f x) || b) (any-map p f xs)

pub entered-map : {K : Type 0} (f : K → List ℕ) (keys : List K) (key : K) → map f (cond (list_any (λ k. bytes_eq (f key) (f k)) keys) keys (keys ++ key ∷ [])) ≡ entered (map f keys) (f key)
entered-map f keys key =
    chosen (list_any (λ k. bytes_eq (f key) (f k)) keys)
    ∙ ap (λ b. cond b (map f keys) (map f keys ++ f key ∷ [])) (sym (any-map (bytes_eq (f key)) f keys))
  where
    chosen : (b : Bool) → map f (cond b keys (keys ++ key ∷ [])) ≡ cond b (map f keys) (map f keys ++ f key ∷ [])
    chosen true = refl
    chosen false = map-append f keys (key ∷ [])

either_true : (b : Bool) → (b || true) ≡ true
either_true true = refl
either_true false = refl

-- a text at a place is there
pub has_at : {K : Type 0} (f : K → List ℕ) (keys : List K) (i : ℕ) (k : K) (text : List ℕ) → i < length keys → k ≡ get_or keys i k → bytes_eq text (f k) ≡ true → has (map f keys) text ≡ true
has_at f [] i k text h at e = absurd (omega arith)
has_at f (x ∷ xs) zero k text h at e = ap (λ c. c || has (map f xs) text) (ap (λ y. bytes_eq text (f y)) (sym at) ∙ e)
has_at f (x ∷ xs) (suc i) k text h at e = ap (λ c. bytes_eq text (f x) || c) (has_at f xs i k text (omega arith) at e) ∙ either_true (bytes_eq text (f x))
