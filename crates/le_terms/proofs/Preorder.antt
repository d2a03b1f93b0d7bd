-- What a walk over a term's symbols says of the term as a tree.
use Rattle.std.proofs.Common.{◌≡◌, ℕ, suc, ◌+◌, ◌<◌, List, [], ◌∷◌, ◌++◌, length, map, take, drop, get_or, refl, sym, ap, ◌∙◌, add-one, drop-cons}
use Rattle.std.proofs.lemmas.List.{map-append, take_more}
use Rattle.le_terms.specs.declared.term.Sym.{Sym}
use Rattle.le_terms.specs.declared.term.Sym.TheVariants.{Name, Num, Day, Var, Nil, Cons}
use Rattle.le_terms.specs.Tree.{Tree, constant, number, date, variable, nil, cell, flat, IsInRange}
use Rattle.le_terms.specs.Variables.{occurrences, firsts, replaced, place_in}
use Rattle.le_terms.specs.Walks.{symbol_variables, renumbered}

-- the variables of two lists of symbols, one after the other
pub symbol_variables-append : (xs ys : List Sym) → symbol_variables (xs ++ ys) ≡ symbol_variables xs ++ symbol_variables ys
symbol_variables-append [] ys = refl
symbol_variables-append (Name n ∷ xs) ys = symbol_variables-append xs ys
symbol_variables-append (Num z ∷ xs) ys = symbol_variables-append xs ys
symbol_variables-append (Day d ∷ xs) ys = symbol_variables-append xs ys
symbol_variables-append (Var v ∷ xs) ys = ap (λ vs. v ∷ vs) (symbol_variables-append xs ys)
symbol_variables-append (Nil ∷ xs) ys = symbol_variables-append xs ys
symbol_variables-append (Cons ∷ xs) ys = symbol_variables-append xs ys

-- the variables among a tree's symbols are the tree's
pub symbol_variables-flat : (tree : Tree) → symbol_variables (flat tree) ≡ occurrences tree
symbol_variables-flat (constant n) = refl
symbol_variables-flat (number z) = refl
symbol_variables-flat (date d) = refl
symbol_variables-flat (variable v) = refl
symbol_variables-flat nil = refl
symbol_variables-flat (cell head tail) =
    symbol_variables-append (flat head) (flat tail)
    ∙ (ap (λ vs. vs ++ symbol_variables (flat tail)) (symbol_variables-flat head)
    ∙ ap (λ vs. occurrences head ++ vs) (symbol_variables-flat tail))

-- the renumbered symbols of a tree are those of the renumbered tree
pub map_renumbered-flat : (vars : List ℕ) (tree : Tree) → map (renumbered vars) (flat tree) ≡ flat (replaced (λ v. variable (place_in vars v)) tree)
map_renumbered-flat vars (constant n) = refl
map_renumbered-flat vars (number z) = refl
map_renumbered-flat vars (date d) = refl
map_renumbered-flat vars (variable v) = refl
map_renumbered-flat vars nil = refl
map_renumbered-flat vars (cell head tail) =
    ap (λ symbols. Cons ∷ symbols)
    (map-append (renumbered vars) (flat head) (flat tail)
    ∙ (ap (λ symbols. symbols ++ map (renumbered vars) (flat tail)) (map_renumbered-flat vars head)
    ∙ ap (λ symbols. flat (replaced (λ v. variable (place_in vars v)) head) ++ symbols) (map_renumbered-flat vars tail)))

-- a tree in range stays so when its variables get other numbers
pub IsInRange-renamed : (name : ℕ → ℕ) (tree : Tree) → IsInRange tree → IsInRange (replaced (λ v. variable (name v)) tree)
IsInRange-renamed name (constant n) h = h
IsInRange-renamed name (number z) h = h
IsInRange-renamed name (date d) h = h
IsInRange-renamed name (variable v) h = h
IsInRange-renamed name nil h = h
IsInRange-renamed name (cell head tail) h = (IsInRange-renamed name head h.0, IsInRange-renamed name tail h.1)

-- numbers none of which comes first are none
pub firsts-none : (ns : List ℕ) → firsts ns ≡ [] → ns ≡ []
firsts-none [] none = refl
firsts-none (n ∷ ns) none = absurd (cc none)

-- what a walk has after it once it puts the image of one item more at the end
pub map_take-push : {X Y : Type 0} (f : X → Y) (xs : List X) (i : ℕ) (x : X) (old new : List Y) (y : Y) → i < length xs → x ≡ get_or xs i x → old ≡ map f (take i xs) → y ≡ f x → new ≡ old ++ y ∷ [] → new ≡ map f (take (i + 1) xs)
map_take-push f xs i x old new y within read before image pushed =
    pushed
    ∙ (ap (λ ys. ys ++ y ∷ []) before
    ∙ (ap (λ z. map f (take i xs) ++ z ∷ []) (image ∙ ap f read)
    ∙ sym (ap (map f) (take_more xs i x within) ∙ map-append f (take i xs) (get_or xs i x ∷ []))))

-- and what it has before it
pub drop-item : {X : Type 0} (xs : List X) (i : ℕ) (x : X) → i < length xs → x ≡ get_or xs i x → drop i xs ≡ x ∷ drop (i + 1) xs
drop-item xs i x within read =
    drop-cons xs i x within ∙ (ap (λ y. y ∷ drop (suc i) xs) (sym read) ∙ ap (λ k. x ∷ drop k xs) (sym (add-one i)))
