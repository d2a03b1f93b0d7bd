-- What becomes of the cells where a clause's head, renamed apart, is unified with an atom.
use Rattle.std.specs.Prelude.{◌≡◌, ℕ, ◌+◌, List, ◌++◌, length, map, zip, Option, Some, None, false}
use Rattle.std.specs.List.{AllByRecursion}
use Rattle.le_terms.specs.Tree.{Tree}
use Rattle.le_terms.specs.Variables.{replaced, all_occurrences}
use Rattle.le_subst.specs.Unifiers.{Bindings, Equation, apply}
use Rattle.le_subst.specs.Solution.{solve_of}
use Rattle.le_store.specs.Shown.{Shown, IsThere, term_of, new_variables}
use Rattle.le_terms.specs.Program.{form_atom}
use Rattle.le_terms.specs.declared.program.Clause.{Clause}
use Rattle.le_terms.specs.declared.program.Program.{Program}
use Rattle.le_proofs.specs.Goals.{terms_under, raised, head_solution}
use Rattle.le_goals.specs.declared.frames.Frame.{Frame}
use Rattle.le_goals.specs.declared.frames.Part.{Part}
use Rattle.le_goals.specs.declared.frames.Source.TheVariants.{Body}
use Rattle.le_goals.specs.Frames.{cell_term, goal_of}
use Rattle.le_goals.specs.Shown.{literal_of}
use Rattle.le_goals.specs.Parting.{laid_at}

-- cells with others after them
pub record Extends (old new : Shown) : Type 0 where
  pub more : List Tree
  pub terms_ : new.now.terms ≡ old.now.terms ++ more
  pub variables_ : new.now.variables ≡ old.now.variables
  pub marks_ : new.marks ≡ old.marks

-- a term's cell among them
pub record HasTerm (old new : Shown) (base : ℕ) (term : Tree) (cell : ℕ) : Type 0 where
  pub there : IsThere new cell
  pub term_ : term_of new cell ≡ replaced (cell_term old.now base) term

-- the cells of terms' variables are there
abbrev pub HasVariables : Shown → ℕ → List Tree → Type 0
HasVariables shown base terms = AllByRecursion (λ v. IsThere shown (base + v)) (all_occurrences terms)

-- the sides of equations as the cells show them
abbrev pub sides : Shown → ℕ → List Tree → ℕ → List Tree → List Equation
sides shown left lefts right rights = zip (terms_under (cell_term shown.now left) lefts) (terms_under (cell_term shown.now right) rights)

-- new variables, and other cells after them, all under a unifier
pub record UnifiesFresh (old new : Shown) (vars fresh : ℕ) (bindings : Bindings) : Type 0 where
  pub first : fresh ≡ length old.now.terms
  pub more : List Tree
  pub terms_ : new.now.terms ≡ map (apply bindings) (old.now.terms ++ (new_variables (length old.now.variables) vars ++ more))
  pub count : length new.now.variables ≡ length old.now.variables + vars

-- the most general unifier of terms whose variables are new, and of an atom's terms; or they have none
abbrev pub UnifiesTerms : Shown → Shown → ℕ → List Tree → ℕ → List Tree → Option ℕ → Type 0
UnifiesTerms old new vars lefts base rights None = solve_of (zip (terms_under (raised (length old.now.variables)) lefts) (terms_under (cell_term old.now base) rights)) ≡ None
UnifiesTerms old new vars lefts base rights (Some fresh) =
    (bindings : Bindings)
    × (solve_of (zip (terms_under (raised (length old.now.variables)) lefts) (terms_under (cell_term old.now base) rights)) ≡ Some bindings)
    × UnifiesFresh old new vars fresh bindings

-- the most general unifier of a clause's head, renamed apart, and the atom of a goal's literal; or they have none
abbrev pub UnifiesClause : Program → Shown → Shown → List Frame → ℕ → ℕ → Clause → Option ℕ → Type 0
UnifiesClause program old new frames goal place clause None =
    head_solution (length old.now.variables) clause (form_atom (literal_of (goal_of program old.now (laid_at program frames goal)) place).form) ≡ None
UnifiesClause program old new frames goal place clause (Some fresh) =
    (bindings : Bindings)
    × (head_solution (length old.now.variables) clause (form_atom (literal_of (goal_of program old.now (laid_at program frames goal)) place).form) ≡ Some bindings)
    × UnifiesFresh old new clause.vars fresh bindings

-- the body of a clause at a place of the program, whose variables are the cells from this one on
abbrev pub body_of_clause : ℕ → ℕ → Clause → Part
body_of_clause place base clause = record { source = Body place; base = base; from = 0; to = length clause.body; alone = false }
