-- Variables with numbers below a bound are at most as many as the bound.
use Rattle.std.proofs.Common.{◌≡◌, ℕ, ◌<◌, ◌≤◌, ◌==◌, Bool, true, false, cond, not, ◌||◌, List, [], ◌∷◌, length, filter, refl, sym, ap, subst, ◌∙◌, true≢false}
use Rattle.std.proofs.lemmas.Bool.{eqb-true}
use Rattle.std.proofs.lemmas.Map.Steps.{length-le_from_distinct_below}
use Rattle.std.specs.List.{AllByRecursion, IsDistinct, list_any}
use Rattle.le_terms.specs.Tree.{Tree}
use Rattle.le_terms.specs.Variables.{firsts, all_occurrences, all_variables}
use Rattle.le_terms.specs.Program.{HasVariablesBelow}

-- what holds of each number holds of those that a test keeps
all-filter : (P : ℕ → Type 0) (p : ℕ → Bool) (ns : List ℕ) → AllByRecursion P ns → AllByRecursion P (filter p ns)
all-filter P p [] h = tt
all-filter P p (n ∷ ns) h = by (p n) (all-filter P p ns h.1)
  where
    by : (b : Bool) → AllByRecursion P (filter p ns) → AllByRecursion P (cond b (n ∷ filter p ns) (filter p ns))
    by true rest = (h.0, rest)
    by false rest = rest

-- the numbers that differ from one differ from it
all-apart : (n : ℕ) (ms : List ℕ) → AllByRecursion (λ m. (n == m) ≡ false) (filter (λ m. not (n == m)) ms)
all-apart n [] = tt
all-apart n (m ∷ ms) = by (n == m) refl (all-apart n ms)
  where
    by : (b : Bool) → (n == m) ≡ b → AllByRecursion (λ k. (n == k) ≡ false) (filter (λ k. not (n == k)) ms) → AllByRecursion (λ k. (n == k) ≡ false) (cond (not b) (m ∷ filter (λ k. not (n == k)) ms) (filter (λ k. not (n == k)) ms))
    by true e rest = rest
    by false e rest = (e, rest)

-- a test keeps numbers without repeats so
distinct-filter : (p : ℕ → Bool) (ns : List ℕ) → IsDistinct ◌==◌ ns → IsDistinct ◌==◌ (filter p ns)
unfolding IsDistinct
distinct-filter p [] h = tt
distinct-filter p (n ∷ ns) h = by (p n) (distinct-filter p ns h.1)
  where
    by : (b : Bool) → IsDistinct ◌==◌ (filter p ns) → IsDistinct ◌==◌ (cond b (n ∷ filter p ns) (filter p ns))
    by true rest = (all-filter (λ m. (n == m) ≡ false) p ns h.0, rest)
    by false rest = rest

-- each number stands once where it first occurs
pub firsts-distinct : (ns : List ℕ) → IsDistinct ◌==◌ (firsts ns)
unfolding IsDistinct
firsts-distinct [] = tt
firsts-distinct (n ∷ ns) = (all-apart n (firsts ns), distinct-filter (λ m. not (n == m)) (firsts ns) (firsts-distinct ns))

-- what holds of each number holds of each where it first occurs
pub all-firsts : (P : ℕ → Type 0) (ns : List ℕ) → AllByRecursion P ns → AllByRecursion P (firsts ns)
all-firsts P [] h = tt
all-firsts P (n ∷ ns) h = (h.0, all-filter P (λ m. not (n == m)) (firsts ns) (all-firsts P ns h.1))

-- what holds of each number holds of one that is there
pub all-there : (P : ℕ → Type 0) (ns : List ℕ) (q : ℕ) → AllByRecursion P ns → list_any (λ m. q == m) ns ≡ true → P q
all-there P [] q h there = absurd (true≢false (sym there))
all-there P (n ∷ ns) q h there = by (q == n) refl (all-there P ns q h.1)
  where
    by : (b : Bool) → (q == n) ≡ b → (list_any (λ m. q == m) ns ≡ true → P q) → P q
    by true e rest = subst P (sym (eqb-true q n e)) h.0
    by false e rest = rest (sym (ap (λ c. c || list_any (λ m. q == m) ns) e) ∙ there)

-- terms whose variables have numbers below a bound have at most so many different ones
pub length-all_variables-le : (bound : ℕ) (trees : List Tree) → HasVariablesBelow bound trees → length (all_variables trees) ≤ bound
length-all_variables-le bound trees h =
    length-le_from_distinct_below (all_variables trees) bound (firsts-distinct (all_occurrences trees))
    (λ q there. all-there (λ v. v < bound) (all_variables trees) q (all-firsts (λ v. v < bound) (all_occurrences trees) h) there)
