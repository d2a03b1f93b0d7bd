-- Noting numbers one after another leaves each where it first occurs.
use Rattle.std.proofs.Common.{◌≡◌, ℕ, ◌==◌, Bool, true, false, cond, not, ◌||◌, ◌&&◌, List, [], ◌∷◌, ◌++◌, filter, refl, sym, ap, ◌∙◌, append_assoc, append-nil}
use Rattle.std.proofs.lemmas.Bool.{eqb-true}
use Rattle.std.proofs.lemmas.Cmp.{nat_eq_equiv}
use Rattle.std.proofs.lemmas.List.Folds.{list_any-append}
use Rattle.std.specs.List.{list_any}
use Rattle.le_terms.specs.Variables.{firsts}
use Rattle.le_terms.specs.Walks.{noted, all_noted}

-- tests that agree keep the same
filter-agree : (p q : ℕ → Bool) → ((n : ℕ) → p n ≡ q n) → (ns : List ℕ) → filter p ns ≡ filter q ns
filter-agree p q agree [] = refl
filter-agree p q agree (n ∷ ns) = ap (λ b. cond b (n ∷ filter p ns) (filter p ns)) (agree n) ∙ ap (λ ms. cond (q n) (n ∷ ms) ms) (filter-agree p q agree ns)

-- two tests after one another
filter-filter : (p q : ℕ → Bool) (ns : List ℕ) → filter p (filter q ns) ≡ filter (λ n. q n && p n) ns
filter-filter p q [] = refl
filter-filter p q (n ∷ ns) = by (q n) (filter-filter p q ns)
  where
    by : (b : Bool) → filter p (filter q ns) ≡ filter (λ m. q m && p m) ns
        → filter p (cond b (n ∷ filter q ns) (filter q ns)) ≡ cond (b && p n) (n ∷ filter (λ m. q m && p m) ns) (filter (λ m. q m && p m) ns)
    by true rest = ap (λ ms. cond (p n) (n ∷ ms) ms) rest
    by false rest = rest

-- whether a number isn't among some
abbrev is_new : List ℕ → ℕ → Bool
is_new ns n = not (list_any (λ m. n == m) ns)

-- a number that is there
is_new-there : (ns : List ℕ) (n : ℕ) → list_any (λ m. n == m) ns ≡ true → (k : ℕ) → (not (n == k) && is_new ns k) ≡ is_new ns k
is_new-there ns n there k = by (n == k) refl
  where
    by : (b : Bool) → (n == k) ≡ b → (not b && is_new ns k) ≡ is_new ns k
    by true e = ap not (sym there ∙ ap (λ m. list_any (λ l. m == l) ns) (eqb-true n k e))
    by false e = refl

-- one more number
is_new-push : (ns : List ℕ) (n k : ℕ) → (not (n == k) && is_new ns k) ≡ is_new (ns ++ n ∷ []) k
is_new-push ns n k = by (list_any (λ m. k == m) ns) (n == k) ∙ ap not (ap (λ b. list_any (λ m. k == m) ns || (b || false)) (nat_eq_equiv.symm n k) ∙ sym (list_any-append (λ m. k == m) ns (n ∷ [])))
  where
    by : (a b : Bool) → (not b && not a) ≡ not (a || (b || false))
    by true true = refl
    by true false = refl
    by false true = refl
    by false false = refl

-- noting some numbers after others puts those at the end that are new, each where it first occurs
pub all_noted-filter : (ns ms : List ℕ) → all_noted ns ms ≡ ns ++ filter (is_new ns) (firsts ms)
all_noted-filter ns [] = sym (append-nil ns)
all_noted-filter ns (m ∷ ms) = by (list_any (λ n. m == n) ns) refl (all_noted-filter ns ms) (all_noted-filter (ns ++ m ∷ []) ms)
  where
    by : (b : Bool) → list_any (λ n. m == n) ns ≡ b
        → all_noted ns ms ≡ ns ++ filter (is_new ns) (firsts ms)
        → all_noted (ns ++ m ∷ []) ms ≡ (ns ++ m ∷ []) ++ filter (is_new (ns ++ m ∷ [])) (firsts ms)
        → all_noted (cond b ns (ns ++ m ∷ [])) ms ≡ ns ++ cond (not b) (m ∷ filter (is_new ns) (filter (λ k. not (m == k)) (firsts ms))) (filter (is_new ns) (filter (λ k. not (m == k)) (firsts ms)))
    by true there same more =
        same ∙ ap (λ ks. ns ++ ks) (sym (filter-filter (is_new ns) (λ k. not (m == k)) (firsts ms) ∙ filter-agree (λ k. not (m == k) && is_new ns k) (is_new ns) (is_new-there ns m there) (firsts ms)))
    by false there same more =
        more ∙ (append_assoc ns (m ∷ []) (filter (is_new (ns ++ m ∷ [])) (firsts ms))
        ∙ ap (λ ks. ns ++ m ∷ ks) (sym (filter-filter (is_new ns) (λ k. not (m == k)) (firsts ms) ∙ filter-agree (λ k. not (m == k) && is_new ns k) (is_new (ns ++ m ∷ [])) (is_new-push ns m) (firsts ms))))

-- noting some numbers from none on leaves each where it first occurs
pub all_noted-firsts : (ms : List ℕ) → all_noted [] ms ≡ firsts ms
all_noted-firsts ms = all_noted-filter [] ms ∙ filter-all (firsts ms)
  where
    filter-all : (ns : List ℕ) → filter (λ n. true) ns ≡ ns
    filter-all [] = refl
    filter-all (n ∷ ns) = ap (λ ms. n ∷ ms) (filter-all ns)

-- noting two lists one after the other
pub all_noted-append : (ns xs ys : List ℕ) → all_noted ns (xs ++ ys) ≡ all_noted (all_noted ns xs) ys
all_noted-append ns [] ys = refl
all_noted-append ns (x ∷ xs) ys = all_noted-append (noted ns x) xs ys
