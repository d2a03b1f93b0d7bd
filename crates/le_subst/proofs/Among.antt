-- A variable is among the symbols of a tree where it occurs in the tree.
use Rattle.std.proofs.Common.{◌≡◌, ℕ, Bool, true, false, ◌||◌, ◌==◌, ◌++◌, refl, sym, ap, ◌∙◌}
use Rattle.std.specs.List.{list_any}
use Rattle.std.proofs.lemmas.Bool.Decides.{Decides-eqb}
use Rattle.std.proofs.lemmas.List.Folds.{list_any-append}
use Rattle.le_terms.specs.declared.term.Sym.{Sym}
use Rattle.le_terms.specs.declared.term.Sym.TheVariants.{Name, Num, Day, Var, Nil, Cons}
use Rattle.le_terms.specs.contracts.term.SymPartialEq.TheImpl.{eq-value}
use Rattle.le_terms.specs.Tree.{Tree, constant, number, date, variable, nil, cell, flat}
use Rattle.le_terms.proofs.Same.{same_symbol}
use Rattle.le_subst.specs.Solution.{occurs}

-- two tests of facts that follow from one another
same_test : (a b : Bool) → (a ≡ true → b ≡ true) → (b ≡ true → a ≡ true) → a ≡ b
same_test true b there back = sym (there refl)
same_test false true there back = back refl
same_test false false there back = refl

-- another symbol
other : (v : ℕ) (symbol : Sym) → (symbol ≡ Var v → ⊥) → (eq-value.it symbol (Var v) || false) ≡ false
other v symbol never = by_test (eq-value.it symbol (Var v)) (same_symbol symbol (Var v)).0
  where
    by_test : (b : Bool) → (b ≡ true → symbol ≡ Var v) → (b || false) ≡ false
    by_test true same = absurd (never (same refl))
    by_test false same = refl

-- a variable
a_variable : (v w : ℕ) → (eq-value.it (Var w) (Var v) || false) ≡ (v == w)
a_variable v w =
    by_test (eq-value.it (Var w) (Var v))
    ∙ same_test (eq-value.it (Var w) (Var v)) (v == w)
    (λ h. (Decides-eqb v w).1 (let named : Var w ≡ Var v = (same_symbol (Var w) (Var v)).0 h in let inner : v ≡ w = (cc) in inner))
    (λ h. (same_symbol (Var w) (Var v)).1 (ap Var (sym ((Decides-eqb v w).0 h))))
  where
    by_test : (b : Bool) → (b || false) ≡ b
    by_test true = refl
    by_test false = refl

pub list_any-flat : (v : ℕ) (tree : Tree) → list_any (λ symbol. eq-value.it symbol (Var v)) (flat tree) ≡ occurs v tree
list_any-flat v (constant n) = other v (Name n) (λ same. (cc))
list_any-flat v (number z) = other v (Num z) (λ same. (cc))
list_any-flat v (date d) = other v (Day d) (λ same. (cc))
list_any-flat v (variable w) = a_variable v w
list_any-flat v nil = other v Nil (λ same. (cc))
list_any-flat v (cell head tail) =
    ap (λ b. b || list_any (λ symbol. eq-value.it symbol (Var v)) (flat head ++ flat tail)) (no_cell (eq-value.it Cons (Var v)) (same_symbol Cons (Var v)).0)
    ∙ (list_any-append (λ symbol. eq-value.it symbol (Var v)) (flat head) (flat tail)
    ∙ (ap (λ b. b || list_any (λ symbol. eq-value.it symbol (Var v)) (flat tail)) (list_any-flat v head)
    ∙ ap (λ b. occurs v head || b) (list_any-flat v tail)))
  where
    no_cell : (b : Bool) → (b ≡ true → Cons ≡ Var v) → b ≡ false
    no_cell true same = absurd (let wrong : Cons ≡ Var v = same refl in cc)
    no_cell false same = refl
