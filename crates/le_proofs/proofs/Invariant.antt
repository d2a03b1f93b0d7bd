-- An atom of a gather that is covered stays so.
use Rattle.std.proofs.Common.{◌≡◌, ℕ, ◌||◌, ◌&&◌, Bool, true, false, List, [], ◌∷◌, ◌++◌, refl, sym, ap, ◌∙◌, subst, true≢false, IsTrue}
use Rattle.std.proofs.lemmas.Bool.Decides.{Decides-eqb}
use Rattle.std.specs.Prelude.{◌==◌}
use Rattle.std.specs.List.{AllByRecursion, list_any, list_all}
use Rattle.le_terms.specs.Tree.{Tree, constant, number, date, variable, nil, cell}
use Rattle.le_terms.specs.Variables.{occurrences, all_occurrences, replaced}
use Rattle.le_terms.specs.declared.program.Atom.{Atom}
use Rattle.le_proofs.specs.Goals.{terms_under, atom_under}
use Rattle.le_proofs.specs.Search.{is_covered}
use Rattle.le_proofs.proofs.Alls.{all-weaken}
use Rattle.le_proofs.proofs.Instances.{terms-hold}

-- a gather's atom that is covered stays so
both-true : (a b : Bool) → (a && b) ≡ true → (a ≡ true) × (b ≡ true)
both-true true b is = (refl, is)
both-true false b is = absurd (true≢false (sym is))

all-true : (p : ℕ → Bool) (vs : List ℕ) → list_all p vs ≡ true → AllByRecursion (λ v. p v ≡ true) vs
all-true p [] is = tt
all-true p (v ∷ vs) is = let both : (p v ≡ true) × (list_all p vs ≡ true) = both-true (p v) (list_all p vs) is in (both.0, all-true p vs both.1)

true-all : (p : ℕ → Bool) (vs : List ℕ) → AllByRecursion (λ v. p v ≡ true) vs → list_all p vs ≡ true
true-all p [] all = refl
true-all p (v ∷ vs) all = ap (λ b. b && list_all p vs) all.0 ∙ true-all p vs all.1

any-left : (p : ℕ → Bool) (xs ys : List ℕ) → list_any p xs ≡ true → list_any p (xs ++ ys) ≡ true
any-left p [] ys is = absurd (true≢false (sym is))
any-left p (x ∷ xs) ys is = by (p x) is (λ there. any-left p xs ys there)
  where
    by : (b : Bool) → (b || list_any p xs) ≡ true → (list_any p xs ≡ true → list_any p (xs ++ ys) ≡ true) → (b || list_any p (xs ++ ys)) ≡ true
    by true is rest = refl
    by false is rest = rest is

any-right : (p : ℕ → Bool) (xs ys : List ℕ) → list_any p ys ≡ true → list_any p (xs ++ ys) ≡ true
any-right p [] ys is = is
any-right p (x ∷ xs) ys is = by (p x) (any-right p xs ys is)
  where
    by : (b : Bool) → list_any p (xs ++ ys) ≡ true → (b || list_any p (xs ++ ys)) ≡ true
    by true rest = refl
    by false rest = rest

-- two numbers are the same
alike-itself : (v : ℕ) → (v == v) ≡ true
alike-itself v = (Decides-eqb v v).1 refl

alike-same : (v w : ℕ) → (v == w) ≡ true → v ≡ w
alike-same v w is = (Decides-eqb v w).0 is

-- variables of a term
abbrev Among : Tree → ℕ → Type 0
Among t v = list_any (λ w. (v == w)) (occurrences t) ≡ true

-- those of a variable's term are among those of the whole
among-under : (to : ℕ → Tree) (t : Tree) (v : ℕ) → Among t v → (w : ℕ) → Among (to v) w → Among (replaced to t) w
among-under to (constant n) v there w inside = absurd (true≢false (sym there))
among-under to (number z) v there w inside = absurd (true≢false (sym there))
among-under to (date d) v there w inside = absurd (true≢false (sym there))
among-under to (variable u) v there w inside = by (v == u) refl there
  where
    by : (b : Bool) → (v == u) ≡ b → (b || false) ≡ true → Among (to u) w
    by true same is = subst (λ k. Among (to k) w) (alike-same v u same) inside
    by false same is = absurd (true≢false (sym is))
among-under to nil v there w inside = absurd (true≢false (sym there))
among-under to (cell head tail) v there w inside = by (list_any (λ u. (v == u)) (occurrences head)) refl
    (λ h. any-left (λ u. (w == u)) (occurrences (replaced to head)) (occurrences (replaced to tail)) (among-under to head v h w inside))
    (λ h. any-right (λ u. (w == u)) (occurrences (replaced to head)) (occurrences (replaced to tail)) (among-under to tail v h w inside))
  where
    any-split : (p : ℕ → Bool) (xs ys : List ℕ) → list_any p xs ≡ false → list_any p (xs ++ ys) ≡ list_any p ys
    any-split p [] ys none = refl
    any-split p (x ∷ xs) ys none = split (p x) none (λ rest. any-split p xs ys rest)
      where
        split : (b : Bool) → (b || list_any p xs) ≡ false → (list_any p xs ≡ false → list_any p (xs ++ ys) ≡ list_any p ys) → (b || list_any p (xs ++ ys)) ≡ list_any p ys
        split true none rest = absurd (true≢false none)
        split false none rest = rest none

    by : (b : Bool) → list_any (λ u. (v == u)) (occurrences head) ≡ b → (Among head v → Among (replaced to (cell head tail)) w) → (Among tail v → Among (replaced to (cell head tail)) w) → Among (replaced to (cell head tail)) w
    by true is first rest = first is
    by false is first rest = rest (sym (any-split (λ u. (v == u)) (occurrences head) (occurrences tail) is) ∙ there)

-- a term's variables are among its own
among-itself : (t : Tree) → AllByRecursion (Among t) (occurrences t)
among-itself t = itself (occurrences t) (λ v is. is)
  where
    itself : (vs : List ℕ) → ((v : ℕ) → list_any (λ w. (v == w)) vs ≡ true → Among t v) → AllByRecursion (Among t) vs
    itself [] give = tt
    itself (v ∷ vs) give = (
      give v (ap (λ b. b || list_any (λ w. (v == w)) vs) (alike-itself v)),
      itself vs (λ w is. give w (later (w == v) (list_any (λ u. (w == u)) vs) is)),
    )
      where
        later : (b c : Bool) → c ≡ true → (b || c) ≡ true
        later true c is = refl
        later false c is = is

pub covered-under : (to : ℕ → Tree) (value_ : Tree) (atom : Atom) → IsTrue (is_covered value_ atom) → IsTrue (is_covered (replaced to value_) (atom_under to atom))
covered-under to value_ atom covered =
    true-all (λ v. list_any (λ w. (v == w)) (occurrences (replaced to value_))) (all_occurrences (terms_under to atom.args))
    (terms-hold (Among value_) (Among (replaced to value_)) to (λ v there. all-weaken (Among (to v)) (Among (replaced to value_)) (λ w inside. among-under to value_ v there w inside) (occurrences (to v)) (among-itself (to v))) atom.args
    (all-true (λ v. list_any (λ w. (v == w)) (occurrences value_)) (all_occurrences atom.args) covered))
