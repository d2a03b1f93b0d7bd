-- Walks over lists: what is left of them from a place on.
use Rattle.std.specs.Prelude.{◌==◌, slice_get}
use Rattle.std.specs.List.{AllByRecursion, list_all, list_any}
use Rattle.std.proofs.Common.{◌≡◌, ℕ, zero, suc, ◌+◌, ◌<◌, ◌≤◌, Bool, true, false, ◌&&◌, ◌||◌, List, [], ◌∷◌, ◌++◌, drop, length, get_or, Some, IsTrue, ◌↔◌, true≢false, refl, sym, ap, subst, ◌∙◌, arith}
use Rattle.std.proofs.lemmas.Bool.Decides.{Decides-eqb}
use Rattle.std.proofs.lemmas.List.{drop_all, get_or_default}
use Rattle.le_terms.proofs.Preorder.{drop-item, symbol_variables-flat}
use Rattle.le_terms.specs.declared.term.Sym.{Sym}
use Rattle.le_terms.specs.declared.term.Sym.TheVariants.{Name, Num, Day, Var, Nil, Cons}
use Rattle.le_terms.specs.Walks.{symbol_variables}
use Rattle.le_terms.specs.Variables.{firsts, occurrences, all_occurrences}
use Rattle.le_terms.specs.Tree.{Tree, flat}

-- the rest of a list from a place on begins with the item there
pub rest-from : {X : Type 0} (xs : List X) (i : ℕ) (d x : X) → i < length xs → get_or xs i d ≡ x → drop i xs ≡ x ∷ drop (i + 1) xs
rest-from xs i d x within read = drop-item xs i x within (sym read ∙ get_or_default xs i d x within)

pub eq-false : (v w : ℕ) → (v ≡ w → ⊥) → (v == w) ≡ false
eq-false v w other = by (v == w) refl
  where
    by : (b : Bool) → (v == w) ≡ b → (v == w) ≡ false
    by true same = absurd (other ((Decides-eqb v w).0 same))
    by false same = same

pub not-variable : (s : Sym) (rest : List Sym) → ((v : ℕ) → s ≡ Var v → ⊥) → symbol_variables (s ∷ rest) ≡ symbol_variables rest
not-variable (Name n) rest other = refl
not-variable (Num z) rest other = refl
not-variable (Day d) rest other = refl
not-variable (Var v) rest other = absurd (other v refl)
not-variable Nil rest other = refl
not-variable Cons rest other = refl

pub all-append : (p : ℕ → Bool) (xs ys : List ℕ) → list_all p (xs ++ ys) ≡ (list_all p xs && list_all p ys)
all-append p [] ys = refl
all-append p (x ∷ xs) ys = by (p x) (all-append p xs ys)
  where
    by : (b : Bool) → list_all p (xs ++ ys) ≡ (list_all p xs && list_all p ys) → (b && list_all p (xs ++ ys)) ≡ ((b && list_all p xs) && list_all p ys)
    by true rest = rest
    by false rest = refl

module _ (var : ℕ) (among : List Sym) (i : ℕ) (d : Sym) (within : i < length among) where
  pub any-here : (other : ℕ) → get_or among i d ≡ Var other → var ≡ other → list_any (λ w. var == w) (symbol_variables (drop i among)) ≡ true
  any-here other read same =
      ap (λ s. list_any (λ w. var == w) (symbol_variables s)) (rest-from among i d (Var other) within read)
      ∙ ap (λ b. b || list_any (λ w. var == w) (symbol_variables (drop (i + 1) among))) ((Decides-eqb var other).1 same)

  pub any-other : (other : ℕ) → get_or among i d ≡ Var other → (var ≡ other → ⊥) → list_any (λ w. var == w) (symbol_variables (drop i among)) ≡ list_any (λ w. var == w) (symbol_variables (drop (i + 1) among))
  any-other other read unlike =
      ap (λ s. list_any (λ w. var == w) (symbol_variables s)) (rest-from among i d (Var other) within read)
      ∙ ap (λ b. b || list_any (λ w. var == w) (symbol_variables (drop (i + 1) among))) (eq-false var other unlike)

-- what holds of the variables of the rest, where the item is none
pub past-item : {Y : Type 0} (of : List ℕ → Y) (among : List Sym) (i : ℕ) (d : Sym) → i < length among → ((v : ℕ) → get_or among i d ≡ Var v → ⊥) → of (symbol_variables (drop i among)) ≡ of (symbol_variables (drop (i + 1) among))
past-item of among i d within none =
    ap (λ s. of (symbol_variables s)) (rest-from among i d (get_or among i d) within refl) ∙ ap of (not-variable (get_or among i d) (drop (i + 1) among) none)

-- an item that is a variable
pub at-variable : {Y : Type 0} (of : List ℕ → Y) (among : List Sym) (i : ℕ) (d : Sym) (v : ℕ) → i < length among → get_or among i d ≡ Var v → of (symbol_variables (drop i among)) ≡ of (v ∷ symbol_variables (drop (i + 1) among))
at-variable of among i d v within read = ap (λ s. of (symbol_variables s)) (rest-from among i d (Var v) within read)

-- nothing is left past the end
pub at-end : {X Y : Type 0} (of : List X → Y) (xs : List X) (i : ℕ) → length xs ≤ i → of (drop i xs) ≡ of []
at-end of xs i past = ap of (drop_all i xs past)

-- no variable at all is no first variable
pub ground-is : (b : Bool) (ns : List ℕ) → IsTrue b ↔ (firsts ns ≡ []) → b ≡ (length ns == 0)
ground-is true [] same = refl
ground-is false [] same = absurd (true≢false (sym (same.1 refl)))
ground-is true (n ∷ ns) same = absurd (cc (same.0 refl))
ground-is false (n ∷ ns) same = sym (eq-false (length (n ∷ ns)) 0 (λ h. absurd (cc h)))

-- what holds of all items holds of each
pub all-at : {X : Type 0} (P : X → Type 0) (xs : List X) (i : ℕ) (x : X) → AllByRecursion P xs → i < length xs → x ≡ get_or xs i x → P x
all-at P [] i x all within read = absurd (omega arith)
all-at P (y ∷ xs) zero x all within read = subst P (sym read) all.0
all-at P (y ∷ xs) (suc i) x all within read = all-at P xs i x all.1 (omega arith) read

pub all-slice : {X : Type 0} (P : X → Type 0) (xs : List X) (i : ℕ) (x : X) → AllByRecursion P xs → slice_get xs i ≡ Some x → P x
all-slice P [] i x all read = absurd (cc read)
all-slice P (y ∷ xs) zero x all read = subst P (cc read) all.0
all-slice P (y ∷ xs) (suc i) x all read = all-slice P xs i x all.1 read

-- a test on all variables of the terms from a place on, by that on the first of them
pub all-terms : (p : ℕ → Bool) (terms : List Tree) (i : ℕ) (term : Tree) (syms : List Sym) (here : Bool) → i < length terms → term ≡ get_or terms i term → syms ≡ flat term → here ≡ list_all p (symbol_variables syms)
    → list_all p (all_occurrences (drop i terms)) ≡ (here && list_all p (all_occurrences (drop (i + 1) terms)))
all-terms p terms i term syms here within read same is =
    ap (λ ts. list_all p (all_occurrences ts)) (drop-item terms i term within read)
    ∙ (all-append p (occurrences term) (all_occurrences (drop (i + 1) terms))
    ∙ ap (λ b. b && list_all p (all_occurrences (drop (i + 1) terms))) (sym (is ∙ (ap (λ s. list_all p (symbol_variables s)) same ∙ ap (list_all p) (symbol_variables-flat term)))))
