-- The solution of equations is a most general unifier of them, and where there is none, nothing unifies them.
use Rattle.std.proofs.Common.{◌≡◌, ℕ, List, [], ◌∷◌, Option, Some, None, refl, sym, ap, subst, ◌∙◌, inl, inr, ◌⊎◌}
use Rattle.std.specs.Option.{option_map}
use Rattle.le_terms.specs.Tree.{Tree, variable, cell}
use Rattle.le_terms.specs.Variables.{replaced}
use Rattle.le_subst.specs.Unifiers.{Equation, Bindings, value_at, apply, mapped, Unifies, Factors, IsMgu}
use Rattle.le_subst.specs.Solution.{Move, dropped, split, bound, contradictory, move, with_replaced, after, run, to_map, solve_of}
use Rattle.le_subst.proofs.Moves.{Means, means, Binds}
use Rattle.le_subst.proofs.Induction.{Next, by_moves, run-none, run-move}
use Rattle.le_subst.proofs.Replacing.{Unifies-with_replaced, Unifies-extended, extended-same, Factors-extended}

-- a solution is a most general unifier, and none says that there is no unifier
abbrev pub Solves : Option Bindings → List Equation → Type 0
Solves (Some bindings) equations = IsMgu bindings equations
Solves None equations = (by : ℕ → Tree) → Unifies by equations → ⊥

-- equations with the same unifiers have the same solutions
same_unifiers : (equations others : List Equation) → ((by : ℕ → Tree) → Unifies by equations → Unifies by others) → ((by : ℕ → Tree) → Unifies by others → Unifies by equations)
    → (answer : Option Bindings) → Solves answer equations → Solves answer others
same_unifiers equations others there back (Some bindings) h = record {
  unifies = there (value_at bindings) h.unifies;
  most_general = λ by unifies. h.most_general by (back by unifies);
}
same_unifiers equations others there back None h = λ by unifies. h by (back by unifies)

-- the first equation of a binding holds where the variable and its term are equal
binding_holds : (left right : Tree) (v : ℕ) (tree : Tree) → Binds left right v tree → (by : ℕ → Tree) → by v ≡ replaced by tree → replaced by left ≡ replaced by right
binding_holds left right v tree binds by same = cases binds.sides
  where
    cases : ((left ≡ variable v) × (right ≡ tree)) ⊎ ((right ≡ variable v) × (left ≡ tree)) → replaced by left ≡ replaced by right
    cases (inl (is_left, is_right)) = ap (replaced by) is_left ∙ (same ∙ ap (replaced by) (sym is_right))
    cases (inr (is_right, is_left)) = ap (replaced by) is_left ∙ (sym same ∙ ap (replaced by) (sym is_right))

-- and only there
binding_same : (left right : Tree) (v : ℕ) (tree : Tree) → Binds left right v tree → (by : ℕ → Tree) → replaced by left ≡ replaced by right → by v ≡ replaced by tree
binding_same left right v tree binds by same = cases binds.sides
  where
    cases : ((left ≡ variable v) × (right ≡ tree)) ⊎ ((right ≡ variable v) × (left ≡ tree)) → by v ≡ replaced by tree
    cases (inl (is_left, is_right)) = ap (replaced by) (sym is_left) ∙ (same ∙ ap (replaced by) is_right)
    cases (inr (is_right, is_left)) = ap (replaced by) (sym is_right) ∙ (sym same ∙ ap (replaced by) is_left)

-- a solution of what is left after a binding, with the binding
solves-binding : (left right : Tree) (v : ℕ) (tree : Tree) (rest : List Equation) → Binds left right v tree → (answer : Option Bindings) → Solves answer (with_replaced v tree rest)
    → Solves (option_map (λ bindings. mapped bindings v (apply bindings tree)) answer) ((left, right) ∷ rest)
solves-binding left right v tree rest binds (Some bindings) h = record {
  unifies = (
    binding_holds left right v tree binds (value_at (mapped bindings v (apply bindings tree))) (extended-same v tree bindings binds.apart),
    Unifies-extended v tree bindings rest h.unifies,
  );
  most_general = λ by unifies.
      let same : by v ≡ replaced by tree = binding_same left right v tree binds by unifies.0 in
      let general : (then_by : ℕ → Tree) × Factors by bindings then_by = h.most_general by (Unifies-with_replaced v tree by same rest unifies.1) in
      (general.0, Factors-extended v tree bindings by general.0 same general.1);
}
solves-binding left right v tree rest binds None h = λ by unifies.
    h by (Unifies-with_replaced v tree by (binding_same left right v tree binds by unifies.0) rest unifies.1)

-- one move
solves-move : (left right : Tree) (rest : List Equation) (m : Move) → Means m left right → Next (λ equations. Solves (solve_of equations) equations) m rest
    → Solves (after to_map (run to_map) (run to_map) m rest) ((left, right) ∷ rest)
solves-move left right rest dropped meant solves =
    same_unifiers rest ((left, right) ∷ rest) (λ by unifies. (ap (replaced by) meant, unifies)) (λ by unifies. unifies.1) (solve_of rest) solves
solves-move left right rest (split heads tails) meant solves =
    same_unifiers (heads ∷ tails ∷ rest) ((left, right) ∷ rest)
    (λ by unifies. (ap (replaced by) meant.0 ∙ (ap (λ h. cell h (replaced by tails.0)) unifies.0 ∙ (ap (cell (replaced by heads.1)) unifies.1.0 ∙ ap (replaced by) (sym meant.1))), unifies.1.1))
    (λ by unifies.
    let cells : cell (replaced by heads.0) (replaced by tails.0) ≡ cell (replaced by heads.1) (replaced by tails.1) = ap (replaced by) (sym meant.0) ∙ (unifies.0 ∙ ap (replaced by) meant.1) in
    (let inner : replaced by heads.0 ≡ replaced by heads.1 = (cc cells) in inner, (let inner : replaced by tails.0 ≡ replaced by tails.1 = (cc cells) in inner, unifies.1)))
    (solve_of (heads ∷ tails ∷ rest)) solves
solves-move left right rest (bound v tree) meant solves = solves-binding left right v tree rest meant (solve_of (with_replaced v tree rest)) solves
solves-move left right rest contradictory meant solves = λ by unifies. meant by unifies.0

-- no equations
solves-none : Solves (solve_of []) []
solves-none = subst (λ answer. Solves answer []) (sym (run-none to_map)) (record { unifies = tt; most_general = λ by unifies. (by, λ v. refl) })

-- the solution of equations solves them
pub solves : (equations : List Equation) → Solves (solve_of equations) equations
solves = by_moves (λ equations. Solves (solve_of equations) equations) solves-none (λ left right rest behind.
    subst (λ answer. Solves answer ((left, right) ∷ rest)) (sym (run-move to_map left right rest)) (solves-move left right rest (move left right) (means left right) behind))
