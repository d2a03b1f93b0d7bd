-- What holds of all parts of a list holds of each.
use Rattle.std.proofs.Common.{◌≡◌, ℕ, zero, suc, ◌+◌, ◌^◌, ◌<◌, ◌≤◌, List, [], ◌∷◌, ◌++◌, length, get_or, map, take, drop, zip, refl, sym, ap, ap₂, subst, ◌∙◌, append_assoc, append-nil, arith}
use Rattle.le_terms.specs.declared.term.Sym.{Sym}
use Rattle.le_terms.specs.declared.program.Literal.{Literal}
use Rattle.le_terms.specs.Tree.{Tree}
use Rattle.le_terms.specs.Variables.{occurrences, all_occurrences}
use Rattle.le_terms.specs.Walks.{symbol_variables}
use Rattle.le_terms.specs.Program.{IsClause, form_terms, literals_terms}
use Rattle.le_terms.specs.declared.program.Clause.{Clause}
use Rattle.le_terms.proofs.Preorder.{drop-item}
use Rattle.std.proofs.lemmas.List.{drop_all}
use Rattle.le_terms.proofs.Preorder.{symbol_variables-append, map_take-push}
use Rattle.le_proofs.proofs.Alls.{all-left, all-right, all-weaken}
use Rattle.le_proofs.proofs.Below.{all_occurrences-append}
use Rattle.le_literals.specs.declared.changing.Change.{Change}
use Rattle.le_literals.specs.declared.changing.Change.TheVariants.{Raise, Apply}
use Rattle.le_literals.specs.Changing.{CanRaise, Allows}

pub allows-left : (change : Change) (xs ys : List ℕ) → Allows change (xs ++ ys) → Allows change xs
allows-left (Raise next) xs ys h = all-left (λ v. next + v < 2 ^ 32) xs ys h
allows-left (Apply subst) xs ys h = tt

pub allows-right : (change : Change) (xs ys : List ℕ) → Allows change (xs ++ ys) → Allows change ys
allows-right (Raise next) xs ys h = all-right (λ v. next + v < 2 ^ 32) xs ys h
allows-right (Apply subst) xs ys h = tt

-- the part of one item among the parts of all
module _ {X : Type 0} (P : List ℕ → Type 0) (left : (xs ys : List ℕ) → P (xs ++ ys) → P xs) (right : (xs ys : List ℕ) → P (xs ++ ys) → P ys)
    (part : X → List ℕ) (all : List X → List ℕ) (step : (x : X) (xs : List X) → all (x ∷ xs) ≡ part x ++ all xs) where
  pub part-at : (xs : List X) (i : ℕ) (x : X) → i < length xs → x ≡ get_or xs i x → P (all xs) → P (part x)
  part-at [] i x within read h = absurd (omega arith)
  part-at (y ∷ xs) zero x within read h = subst (λ z. P (part z)) (sym read) (left (part y) (all xs) (subst P (step y xs) h))
  part-at (y ∷ xs) (suc i) x within read h = part-at xs i x (omega arith) read (right (part y) (all xs) (subst P (step y xs) h))

-- a symbol's variables
pub symbol-at : (next : ℕ) (syms : List Sym) (i : ℕ) (x : Sym) → i < length syms → x ≡ get_or syms i x → CanRaise next (symbol_variables syms) → CanRaise next (symbol_variables (x ∷ []))
symbol-at next =
    part-at (CanRaise next) (all-left (λ v. next + v < 2 ^ 32)) (all-right (λ v. next + v < 2 ^ 32)) (λ x. symbol_variables (x ∷ [])) symbol_variables
    (λ x xs. symbol_variables-append (x ∷ []) xs)

-- a term's variables
pub tree-at : (change : Change) (trees : List Tree) (i : ℕ) (x : Tree) → i < length trees → x ≡ get_or trees i x → Allows change (all_occurrences trees) → Allows change (occurrences x)
tree-at change = part-at (Allows change) (allows-left change) (allows-right change) occurrences all_occurrences (λ x xs. refl)

-- a literal's variables
pub literal-at : (change : Change) (literals : List Literal) (i : ℕ) (x : Literal) → i < length literals → x ≡ get_or literals i x
    → Allows change (all_occurrences (literals_terms literals)) → Allows change (all_occurrences (form_terms x.form))
literal-at change =
    part-at (Allows change) (allows-left change) (allows-right change) (λ x. all_occurrences (form_terms x.form)) (λ literals. all_occurrences (literals_terms literals))
    (λ x xs. all_occurrences-append (form_terms x.form) (literals_terms xs))

-- one more image after some items and the images so far
pub map_take-push-behind : {X Y : Type 0} (f : X → Y) (xs : List X) (i : ℕ) (x : X) (first old new : List Y) (y : Y) → i < length xs → x ≡ get_or xs i x → old ≡ first ++ map f (take i xs) → y ≡ f x → new ≡ old ++ y ∷ [] → new ≡ first ++ map f (take (i + 1) xs)
map_take-push-behind f xs i x first old new y within read before image pushed =
    pushed ∙ (ap (λ ys. ys ++ y ∷ []) before
    ∙ (append_assoc first (map f (take i xs)) (y ∷ [])
    ∙ ap (λ ys. first ++ ys) (map_take-push f xs i x (map f (take i xs)) (map f (take i xs) ++ y ∷ []) y within read refl image refl)))

pub zip-nil : {K X : Type 0} (ks : List K) → zip {X = X} ks [] ≡ []
zip-nil [] = refl
zip-nil (k ∷ ks) = refl

-- a clause's variables can be raised by a number that leaves room for 64
clause-vars : (next : ℕ) (clause : Clause) → IsClause clause → next + 64 < 2 ^ 32 → CanRaise next (all_occurrences clause.head.args ++ all_occurrences (literals_terms clause.body))
clause-vars next clause is fits =
    subst (CanRaise next) (all_occurrences-append clause.head.args (literals_terms clause.body))
    (all-weaken (λ v. v < clause.vars) (λ v. next + v < 2 ^ 32) (λ v (below : v < clause.vars). omega (arith, is.few)) (all_occurrences (clause.head.args ++ literals_terms clause.body)) is.variables)

pub head-vars : (next : ℕ) (clause : Clause) → IsClause clause → next + 64 < 2 ^ 32 → CanRaise next (all_occurrences clause.head.args)
head-vars next clause is fits =
    all-left (λ v. next + v < 2 ^ 32) (all_occurrences clause.head.args) (all_occurrences (literals_terms clause.body)) (clause-vars next clause is fits)

pub body-vars : (next : ℕ) (clause : Clause) → IsClause clause → next + 64 < 2 ^ 32 → CanRaise next (all_occurrences (literals_terms clause.body))
body-vars next clause is fits =
    all-right (λ v. next + v < 2 ^ 32) (all_occurrences clause.head.args) (all_occurrences (literals_terms clause.body)) (clause-vars next clause is fits)

-- the equations of the rest, the first of which is taken
pub zip-step : {X Y Z : Type 0} (f : X → Y) (xs : List X) (ys : List Z) (i : ℕ) (x : X) (y : Z) (z : Y) (old new all : List (Y × Z)) → i < length xs → i < length ys → x ≡ get_or xs i x → y ≡ get_or ys i y → z ≡ f x
    → old ++ zip (map f (drop i xs)) (drop i ys) ≡ all → new ≡ old ++ (z, y) ∷ [] → new ++ zip (map f (drop (i + 1) xs)) (drop (i + 1) ys) ≡ all
zip-step f xs ys i x y z old new all within short read other image before pushed =
    ap (λ ps. ps ++ zip (map f (drop (i + 1) xs)) (drop (i + 1) ys)) pushed
    ∙ (append_assoc old ((z, y) ∷ []) (zip (map f (drop (i + 1) xs)) (drop (i + 1) ys))
    ∙ (ap (λ w. old ++ (w, y) ∷ zip (map f (drop (i + 1) xs)) (drop (i + 1) ys)) image
    ∙ (sym (ap₂ (λ ls rs. old ++ zip (map f ls) rs) (drop-item xs i x within read) (drop-item ys i y short other))
    ∙ before)))

-- no equations are left once one of the lists is at its end
pub zip-past : {X Y Z : Type 0} (f : X → Y) (xs : List X) (ys : List Z) (i : ℕ) (old all : List (Y × Z)) → length ys ≤ i → old ++ zip (map f (drop i xs)) (drop i ys) ≡ all → old ≡ all
zip-past f xs ys i old all past before =
    sym (append-nil old) ∙ (ap (λ ps. old ++ ps) (sym (ap (zip (map f (drop i xs))) (drop_all i ys past) ∙ zip-nil (map f (drop i xs)))) ∙ before)

pub zip-end : {X Y Z : Type 0} (f : X → Y) (xs : List X) (ys : List Z) (i : ℕ) (old all : List (Y × Z)) → length xs ≤ i → old ++ zip (map f (drop i xs)) (drop i ys) ≡ all → old ≡ all
zip-end f xs ys i old all past before =
    sym (append-nil old) ∙ (ap (λ ps. old ++ ps) (sym (ap (λ ls. zip (map f ls) (drop i ys)) (drop_all i xs past))) ∙ before)
