-- What becomes of a literal by an equation.
use Rattle.std.proofs.Common.{◌≡◌, ℕ, Bool, true, false, List, [], ◌∷◌, Some, None, refl, sym, ap, subst, ◌∙◌}
use Rattle.le_terms.specs.Tree.{Tree, tree_of, flat, IsLeaf, constant, number, date, nil}
use Rattle.le_terms.specs.declared.term.Sym.{Sym}
use Rattle.le_terms.specs.declared.term.Sym.TheVariants.{Name, Num, Day, Var, Nil, Cons}
use Rattle.le_terms.specs.declared.program.Atom.{Atom}
use Rattle.le_subst.specs.Solution.{solve_of}
use Rattle.le_builtins.specs.Compute.{compute, argument}
use Rattle.le_builtins.specs.declared.computing.Calc.TheVariants.{Same}
use Rattle.le_proofs.specs.Search.{Outcome, goes_on, fails, by_solution, by_answer, computing}
use Rattle.le_goals.specs.Shown.{Snapshot, Equates, IsWholeSymbol}
use Rattle.le_cells.specs.declared.goals.Outcome as code
use Rattle.le_cells.specs.declared.goals.Outcome.TheVariants.{GoesOn, Fails}
use Rattle.le_cells.specs.Keeping.{Becomes, bound}
use Rattle.le_cells.specs.Turns.{ByEquation}

-- a literal goes on where its equation has a unifier, and else fails
pub becomes-by : (old new : Snapshot) (left right : Tree) (equal : Bool) (outcome : code.Outcome) (said : Outcome) → Equates old new left right equal → ByEquation equal outcome → by_solution (solve_of ((left, right) ∷ [])) ≡ said → Becomes old new outcome said
becomes-by old new left right true outcome said equates by is = subst (λ o. Becomes old new o said) (sym by) (equates.0, sym is ∙ ap by_solution equates.1, bound equates.2)
becomes-by old new left right false outcome said equates by is = subst (λ o. Becomes old new o said) (sym by) (sym is ∙ ap by_solution equates)

-- an equation is computed to be one
pub equation-same : (terms : List Tree) → compute 0 terms ≡ Same
unfolding compute
equation-same [] = refl
equation-same (x ∷ []) = refl
equation-same (x ∷ (y ∷ terms)) = refl

pub computing-equation : (line : ℕ) (atom : Atom) → 0 ≡ atom.pred → by_solution (solve_of ((argument atom.args 0, argument atom.args 1) ∷ [])) ≡ computing line atom
computing-equation line atom none = ap (by_answer line atom.args) (sym (equation-same atom.args) ∙ ap (λ p. compute p atom.args) none)

-- a symbol that is computed is a whole term
pub leaf-tree : (s : Sym) → IsWholeSymbol s → flat (tree_of (s ∷ [])) ≡ s ∷ []
leaf-tree (Name n) h = refl
leaf-tree (Num z) h = refl
leaf-tree (Day d) h = refl
leaf-tree (Var v) h = absurd h
leaf-tree Nil h = refl
leaf-tree Cons h = absurd h
