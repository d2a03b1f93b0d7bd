-- Replacements after one another, and finite maps with one variable more.
use Rattle.std.proofs.Common.{◌≡◌, ℕ, Bool, true, false, cond, ◌==◌, List, [], ◌∷◌, refl, sym, ap, ◌∙◌, true≢false}
use Rattle.std.proofs.lemmas.Bool.Decides.{Decides-eqb}
use Rattle.std.proofs.lemmas.Cmp.{nat_eq_equiv}
use Rattle.le_terms.specs.Tree.{Tree, constant, number, date, variable, nil, cell}
use Rattle.le_terms.specs.Variables.{replaced}
use Rattle.le_subst.specs.Unifiers.{Equation, Bindings, value_at, apply, mapped, Unifies}
use Rattle.le_subst.specs.Solution.{occurs, one, with_replaced}
use Rattle.le_subst.proofs.Moves.{neither}

-- replacements that agree on each variable agree on each tree
pub replaced-agree : (by with : ℕ → Tree) → ((v : ℕ) → by v ≡ with v) → (tree : Tree) → replaced by tree ≡ replaced with tree
replaced-agree by with agree (constant n) = refl
replaced-agree by with agree (number z) = refl
replaced-agree by with agree (date d) = refl
replaced-agree by with agree (variable v) = agree v
replaced-agree by with agree nil = refl
replaced-agree by with agree (cell head tail) = ap (λ h. cell h (replaced by tail)) (replaced-agree by with agree head) ∙ ap (cell (replaced with head)) (replaced-agree by with agree tail)

-- one replacement after another
pub replaced-replaced : (by then_by : ℕ → Tree) (tree : Tree) → replaced then_by (replaced by tree) ≡ replaced (λ v. replaced then_by (by v)) tree
replaced-replaced by then_by (constant n) = refl
replaced-replaced by then_by (number z) = refl
replaced-replaced by then_by (date d) = refl
replaced-replaced by then_by (variable v) = refl
replaced-replaced by then_by nil = refl
replaced-replaced by then_by (cell head tail) =
    ap (λ h. cell h (replaced then_by (replaced by tail))) (replaced-replaced by then_by head)
    ∙ ap (cell (replaced (λ v. replaced then_by (by v)) head)) (replaced-replaced by then_by tail)

-- the replacement of a variable that doesn't occur
pub replaced-apart : (v : ℕ) (by tree : Tree) → occurs v tree ≡ false → replaced (one v by) tree ≡ tree
replaced-apart v by (constant n) apart = refl
replaced-apart v by (number z) apart = refl
replaced-apart v by (date d) apart = refl
replaced-apart v by (variable w) apart = ap (λ b. cond b by (variable w)) (nat_eq_equiv.symm w v ∙ apart)
replaced-apart v by nil apart = refl
replaced-apart v by (cell head tail) apart =
    ap (λ h. cell h (replaced (one v by) tail)) (replaced-apart v by head (neither (occurs v head) (occurs v tail) apart).0)
    ∙ ap (cell head) (replaced-apart v by tail (neither (occurs v head) (occurs v tail) apart).1)

-- a substitution that makes a variable and a term equal, after the variable's replacement by the term, at a variable
one-then : (v : ℕ) (tree : Tree) (by : ℕ → Tree) → by v ≡ replaced by tree → (w : ℕ) → replaced by (one v tree w) ≡ by w
one-then v tree by same w = by_test (w == v) refl
  where
    by_test : (b : Bool) → (w == v) ≡ b → replaced by (cond b tree (variable w)) ≡ by w
    by_test true e = sym same ∙ ap by (sym ((Decides-eqb w v).0 e))
    by_test false e = refl

-- and at a tree
pub replaced-one : (v : ℕ) (tree : Tree) (by : ℕ → Tree) → by v ≡ replaced by tree → (other : Tree) → replaced by (replaced (one v tree) other) ≡ replaced by other
replaced-one v tree by same other = replaced-replaced (one v tree) by other ∙ replaced-agree (λ w. replaced by (one v tree w)) by (one-then v tree by same) other

-- what a map with one variable more has for a variable
pub value_at-mapped : (bindings : Bindings) (v : ℕ) (tree : Tree) (w : ℕ) → value_at (mapped bindings v tree) w ≡ cond (w == v) tree (value_at bindings w)
value_at-mapped [] v tree w = refl
value_at-mapped (binding ∷ bindings) v tree w = by_test (v == binding.0) refl (value_at-mapped bindings v tree w)
  where
    by_test : (b : Bool) → (v == binding.0) ≡ b → value_at (mapped bindings v tree) w ≡ cond (w == v) tree (value_at bindings w)
        → value_at (cond b ((binding.0, tree) ∷ bindings) (binding ∷ mapped bindings v tree)) w ≡ cond (w == v) tree (cond (w == binding.0) binding.1 (value_at bindings w))
    by_test true e more = same_key ((Decides-eqb v binding.0).0 e)
      where
        two_tests : (c : Bool) → cond c tree (value_at bindings w) ≡ cond c tree (cond c binding.1 (value_at bindings w))
        two_tests true = refl
        two_tests false = refl

        same_key : v ≡ binding.0 → cond (w == binding.0) tree (value_at bindings w) ≡ cond (w == v) tree (cond (w == binding.0) binding.1 (value_at bindings w))
        same_key same = two_tests (w == binding.0) ∙ ap (λ k. cond (w == k) tree (cond (w == binding.0) binding.1 (value_at bindings w))) (sym same)
    by_test false e more = other_test (w == binding.0) refl
      where
        other_test : (c : Bool) → (w == binding.0) ≡ c → cond c binding.1 (value_at (mapped bindings v tree) w) ≡ cond (w == v) tree (cond c binding.1 (value_at bindings w))
        other_test true h = ap (λ d. cond d tree binding.1) (sym (other_key (w == v) refl))
          where
            other_key : (d : Bool) → (w == v) ≡ d → (w == v) ≡ false
            other_key true g = absurd (true≢false (sym ((Decides-eqb v binding.0).1 (sym ((Decides-eqb w v).0 g) ∙ (Decides-eqb w binding.0).0 h)) ∙ e))
            other_key false g = g
        other_test false h = more

-- the map with a variable mapped to its term under the map is the variable's replacement and then the map: at a variable
extended-at : (bindings : Bindings) (v : ℕ) (tree : Tree) (w : ℕ) → value_at (mapped bindings v (apply bindings tree)) w ≡ apply bindings (one v tree w)
extended-at bindings v tree w = value_at-mapped bindings v (apply bindings tree) w ∙ by_test (w == v)
  where
    by_test : (b : Bool) → cond b (apply bindings tree) (value_at bindings w) ≡ apply bindings (cond b tree (variable w))
    by_test true = refl
    by_test false = refl

-- and at a tree
pub apply-extended : (bindings : Bindings) (v : ℕ) (tree other : Tree) → apply (mapped bindings v (apply bindings tree)) other ≡ apply bindings (replaced (one v tree) other)
apply-extended bindings v tree other =
    replaced-agree (value_at (mapped bindings v (apply bindings tree))) (λ w. apply bindings (one v tree w)) (extended-at bindings v tree) other
    ∙ sym (replaced-replaced (one v tree) (value_at bindings) other)

-- a substitution that makes a variable and a term equal unifies equations with the variable replaced
pub Unifies-with_replaced : (v : ℕ) (tree : Tree) (by : ℕ → Tree) → by v ≡ replaced by tree → (equations : List Equation) → Unifies by equations → Unifies by (with_replaced v tree equations)
Unifies-with_replaced v tree by same [] h = tt
Unifies-with_replaced v tree by same (equation ∷ equations) h =
    (replaced-one v tree by same equation.0 ∙ (h.0 ∙ sym (replaced-one v tree by same equation.1)), Unifies-with_replaced v tree by same equations h.1)

-- a map that unifies these unifies the equations, once the variable is mapped to its term
pub Unifies-extended : (v : ℕ) (tree : Tree) (bindings : Bindings) (equations : List Equation) → Unifies (value_at bindings) (with_replaced v tree equations) → Unifies (value_at (mapped bindings v (apply bindings tree))) equations
Unifies-extended v tree bindings [] h = tt
Unifies-extended v tree bindings (equation ∷ equations) h =
    (apply-extended bindings v tree equation.0 ∙ (h.0 ∙ sym (apply-extended bindings v tree equation.1)), Unifies-extended v tree bindings equations h.1)

-- the map makes the variable and its term equal
pub extended-same : (v : ℕ) (tree : Tree) (bindings : Bindings) → occurs v tree ≡ false → value_at (mapped bindings v (apply bindings tree)) v ≡ apply (mapped bindings v (apply bindings tree)) tree
extended-same v tree bindings apart =
    value_at-mapped bindings v (apply bindings tree) v
    ∙ (ap (λ b. cond b (apply bindings tree) (value_at bindings v)) ((Decides-eqb v v).1 refl)
    ∙ (ap (apply bindings) (sym (replaced-apart v tree tree apart)) ∙ sym (apply-extended bindings v tree tree)))

-- what follows the map follows the map with the variable
pub Factors-extended : (v : ℕ) (tree : Tree) (bindings : Bindings) (by then_by : ℕ → Tree) → by v ≡ replaced by tree → ((w : ℕ) → by w ≡ replaced then_by (value_at bindings w))
    → (w : ℕ) → by w ≡ replaced then_by (value_at (mapped bindings v (apply bindings tree)) w)
Factors-extended v tree bindings by then_by same factors w =
    sym (one-then v tree by same w)
    ∙ (replaced-agree by (λ u. replaced then_by (value_at bindings u)) factors (one v tree w)
    ∙ (sym (replaced-replaced (value_at bindings) then_by (one v tree w))
    ∙ ap (replaced then_by) (sym (extended-at bindings v tree w))))
