-- What each move says of the two sides.
use Rattle.std.proofs.Common.{◌≡◌, ℕ, suc, ◌+◌, ◌<◌, ◌≤◌, Bool, true, false, cond, ◌||◌, ◌==◌, nat_lt, refl, sym, ap, ◌∙◌, arith, true≢false, inl, inr, ◌⊎◌}
use Rattle.std.specs.Ordering.{int_eq}
use Rattle.std.proofs.lemmas.Bool.Decides.{Decides-eqb, Decides-int_eq}
use Rattle.std.proofs.lemmas.Cmp.{nat_eq_equiv}
use Rattle.le_terms.specs.Tree.{Tree, constant, number, date, variable, nil, cell}
use Rattle.le_terms.specs.Variables.{replaced}
use Rattle.le_subst.specs.Solution.{occurs, Move, dropped, split, bound, contradictory, against, move, size}

-- a binding's variable doesn't occur in its term, and they are the two sides
pub record Binds (left right : Tree) (v : ℕ) (tree : Tree) : Type 0 where
  pub apart : occurs v tree ≡ false
  pub sides : ((left ≡ variable v) × (right ≡ tree)) ⊎ ((right ≡ variable v) × (left ≡ tree))

-- what a move says of the sides
abbrev pub Means : Move → Tree → Tree → Type 0
Means dropped left right = left ≡ right
Means (split heads tails) left right = (left ≡ cell heads.0 tails.0) × (right ≡ cell heads.1 tails.1)
Means (bound v tree) left right = Binds left right v tree
Means contradictory left right = (by : ℕ → Tree) → replaced by left ≡ replaced by right → ⊥

-- each term has a symbol
pub size-positive : (tree : Tree) → 0 < size tree
size-positive (constant n) = omega arith
size-positive (number z) = omega arith
size-positive (date d) = omega arith
size-positive (variable v) = omega arith
size-positive nil = omega arith
size-positive (cell head tail) = omega arith

-- one of two holds
pub either : (a b : Bool) → (a || b) ≡ true → (a ≡ true) ⊎ (b ≡ true)
either true b h = inl refl
either false b h = inr h

-- none of two holds
pub neither : (a b : Bool) → (a || b) ≡ false → (a ≡ false) × (b ≡ false)
neither true b h = absurd (true≢false h)
neither false b h = (refl, h)

-- a variable's replacement is no larger than that of a term in which it occurs
pub size-occurs : (by : ℕ → Tree) (v : ℕ) (tree : Tree) → occurs v tree ≡ true → size (by v) ≤ size (replaced by tree)
size-occurs by v (constant n) h = absurd (true≢false (sym h))
size-occurs by v (number z) h = absurd (true≢false (sym h))
size-occurs by v (date d) h = absurd (true≢false (sym h))
size-occurs by v (variable w) h =
    let same : v ≡ w = (Decides-eqb v w).0 h in
    let sizes : size (by v) ≡ size (by w) = ap (λ u. size (by u)) same in
    omega arith
size-occurs by v nil h = absurd (true≢false (sym h))
size-occurs by v (cell head tail) h =
    elim (either (occurs v head) (occurs v tail) h) as (λ _. size (by v) ≤ suc (size (replaced by head) + size (replaced by tail))) [
      | inl in_head ↦ let le : size (by v) ≤ size (replaced by head) = size-occurs by v head in_head in omega arith
      | inr in_tail ↦ let le : size (by v) ≤ size (replaced by tail) = size-occurs by v tail in_tail in omega arith
    ]

-- so a variable and a cell in which it occurs have no unifier
pub no_unifier : (v : ℕ) (head tail : Tree) → occurs v (cell head tail) ≡ true → (by : ℕ → Tree) → by v ≡ replaced by (cell head tail) → ⊥
no_unifier v head tail h by same = cases (either (occurs v head) (occurs v tail) h)
  where
    sizes : size (by v) ≡ suc (size (replaced by head) + size (replaced by tail))
    sizes = ap size same

    cases : (occurs v head ≡ true) ⊎ (occurs v tail ≡ true) → ⊥
    cases (inl in_head) = let le : size (by v) ≤ size (replaced by head) = size-occurs by v head in_head in let eq : size (by v) ≡ suc (size (replaced by head) + size (replaced by tail)) = sizes in omega arith
    cases (inr in_tail) = let le : size (by v) ≤ size (replaced by tail) = size-occurs by v tail in_tail in let eq : size (by v) ≡ suc (size (replaced by head) + size (replaced by tail)) = sizes in omega arith

-- a variable on the left
on_left : (v : ℕ) (tree : Tree) → ((h : occurs v tree ≡ true) (by : ℕ → Tree) → by v ≡ replaced by tree → ⊥) → Means (against v tree) (variable v) tree
on_left v tree never = by_test (occurs v tree) refl
  where
    by_test : (b : Bool) → occurs v tree ≡ b → Means (cond b contradictory (bound v tree)) (variable v) tree
    by_test true h = λ by same. never h by same
    by_test false h = record { apart = h; sides = inl (refl, refl) }

-- a variable on the right
on_right : (v : ℕ) (tree : Tree) → ((h : occurs v tree ≡ true) (by : ℕ → Tree) → by v ≡ replaced by tree → ⊥) → Means (against v tree) tree (variable v)
on_right v tree never = by_test (occurs v tree) refl
  where
    by_test : (b : Bool) → occurs v tree ≡ b → Means (cond b contradictory (bound v tree)) tree (variable v)
    by_test true h = λ by same. never h by (sym same)
    by_test false h = record { apart = h; sides = inr (refl, refl) }

-- two variables
two_variables : (v w : ℕ) → Means (move (variable v) (variable w)) (variable v) (variable w)
two_variables v w = by_test (v == w) refl (nat_lt v w)
  where
    by_test : (b : Bool) → (v == w) ≡ b → (c : Bool) → Means (cond b dropped (cond c (bound w (variable v)) (bound v (variable w)))) (variable v) (variable w)
    by_test true h c = ap variable ((Decides-eqb v w).0 h)
    by_test false h true = record { apart = nat_eq_equiv.symm w v ∙ h; sides = inr (refl, refl) }
    by_test false h false = record { apart = h; sides = inl (refl, refl) }

-- two leaves of one kind
two_leaves : (b : Bool) (left right : Tree) → (b ≡ true → left ≡ right) → (b ≡ false → (by : ℕ → Tree) → replaced by left ≡ replaced by right → ⊥) → Means (cond b dropped contradictory) left right
two_leaves true left right same other = same refl
two_leaves false left right same other = other refl

-- what the move of two terms says of them
pub means : (left right : Tree) → Means (move left right) left right
means (variable v) (variable w) = two_variables v w
means (variable v) (constant n) = on_left v (constant n) (λ h. absurd (true≢false (sym h)))
means (variable v) (number z) = on_left v (number z) (λ h. absurd (true≢false (sym h)))
means (variable v) (date d) = on_left v (date d) (λ h. absurd (true≢false (sym h)))
means (variable v) nil = on_left v nil (λ h. absurd (true≢false (sym h)))
means (variable v) (cell head tail) = on_left v (cell head tail) (no_unifier v head tail)
means (constant n) (variable v) = on_right v (constant n) (λ h. absurd (true≢false (sym h)))
means (number z) (variable v) = on_right v (number z) (λ h. absurd (true≢false (sym h)))
means (date d) (variable v) = on_right v (date d) (λ h. absurd (true≢false (sym h)))
means nil (variable v) = on_right v nil (λ h. absurd (true≢false (sym h)))
means (cell head tail) (variable v) = on_right v (cell head tail) (no_unifier v head tail)
means (cell head tail) (cell other_head other_tail) = (refl, refl)
means (constant m) (constant n) = two_leaves (m == n) (constant m) (constant n) (λ h. ap constant ((Decides-eqb m n).0 h)) (λ h by same. let inner : m ≡ n = (cc) in true≢false (sym ((Decides-eqb m n).1 inner) ∙ h))
means (number m) (number n) = two_leaves (int_eq m n) (number m) (number n) (λ h. ap number ((Decides-int_eq m n).0 h)) (λ h by same. let inner : m ≡ n = (cc) in true≢false (sym ((Decides-int_eq m n).1 inner) ∙ h))
means (date m) (date n) = two_leaves (int_eq m n) (date m) (date n) (λ h. ap date ((Decides-int_eq m n).0 h)) (λ h by same. let inner : m ≡ n = (cc) in true≢false (sym ((Decides-int_eq m n).1 inner) ∙ h))
means nil nil = refl
means (constant m) (number n) = λ by same. (cc)
means (constant m) (date n) = λ by same. (cc)
means (constant m) nil = λ by same. (cc)
means (constant m) (cell head tail) = λ by same. (cc)
means (number m) (constant n) = λ by same. (cc)
means (number m) (date n) = λ by same. (cc)
means (number m) nil = λ by same. (cc)
means (number m) (cell head tail) = λ by same. (cc)
means (date m) (constant n) = λ by same. (cc)
means (date m) (number n) = λ by same. (cc)
means (date m) nil = λ by same. (cc)
means (date m) (cell head tail) = λ by same. (cc)
means nil (constant n) = λ by same. (cc)
means nil (number n) = λ by same. (cc)
means nil (date n) = λ by same. (cc)
means nil (cell head tail) = λ by same. (cc)
means (cell head tail) (constant n) = λ by same. (cc)
means (cell head tail) (number n) = λ by same. (cc)
means (cell head tail) (date n) = λ by same. (cc)
means (cell head tail) nil = λ by same. (cc)
