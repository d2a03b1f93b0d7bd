-- The children of a goal, clause by clause.
use Rattle.std.specs.List.{AllByRecursion, cons_option}
use Rattle.std.specs.Prelude.{option_map, slice_get}
use Rattle.std.proofs.Common.{◌≡◌, ℕ, ◌+◌, ◌<◌, ◌≤◌, List, [], ◌∷◌, drop, length, get_or, Option, Some, None, sym, ap, ap₂, subst, ◌∙◌, add-one, arith}
use Rattle.std.proofs.lemmas.List.{drop_all}
use Rattle.std.proofs.lemmas.Option.{slice_get_within, get_or_from_slice_get}
use Rattle.le_terms.specs.declared.program.Atom.{Atom}
use Rattle.le_terms.specs.declared.program.Clause.{Clause}
use Rattle.le_terms.specs.declared.program.Literal.{Literal}
use Rattle.le_terms.specs.declared.program.Program.{Program}
use Rattle.le_terms.specs.Program.{IsProgram, IsProgramClause, IsLiteral, StandsInPlace, HasArity, form_atom, predefined_arities, predefined_count}
use Rattle.le_terms.specs.declared.program.Form.{Form}
use Rattle.le_terms.specs.declared.program.Form.TheVariants.{Pos, Neg, Calc, Gather}
use Rattle.le_subst.specs.Unifiers.{Bindings}
use Rattle.le_proofs.specs.Goals.{Goal, Child, children, child_by, head_solution, literals_under, raised, resolvent_by}
use Rattle.le_goals.specs.Shown.{Snapshot, goal_at, no_goal, picked_at, KeepsUnder}
use Rattle.le_cells.specs.declared.returning.Child.{Child as CodeChild}
use Rattle.le_cells.specs.Keeping.{placed, children_from, IsComputable, AreComputable}
use Rattle.le_cells.specs.Turns.{GoOn, IsChild, IsChildReady, IsReadyClause}
use Rattle.le_cells.proofs.Turning.{under-computable, with-computable}
use Rattle.le_literals.proofs.Walks.{rest-from}

-- a child by the clauses from a place on before those by the clauses from a later one, if there is one
abbrev pub Follows : Snapshot → Snapshot → ℕ → ℕ → Literal → Atom → List Clause → ℕ → ℕ → Option CodeChild → Type 0
Follows old new goal place literal atom clauses i j None = children_from (goal_at old goal) place literal atom clauses i ≡ children_from (goal_at old goal) place literal atom clauses j
Follows old new goal place literal atom clauses i j (Some child) = GoOn old new (children_from (goal_at old goal) place literal atom clauses i) (Some child) (children_from (goal_at old goal) place literal atom clauses j)

pub follows : (old new : Snapshot) (goal place : ℕ) (literal : Literal) (atom : Atom) (clauses : List Clause) (i : ℕ) (d clause : Clause) (answer : Option CodeChild) → (goal_at old goal).next ≡ old.next → i < length clauses → get_or clauses i d ≡ clause
    → IsChild old new goal place atom (i + 1) clause answer → Follows old new goal place literal atom clauses i (i + 1) answer
follows old new goal place literal atom clauses i d clause answer own within read is = by answer is
  where
    at : Goal
    at = goal_at old goal

    split : children_from at place literal atom clauses i ≡ cons_option (option_map (child_by at (placed at.literals place literal) (i + 1) clause) (head_solution at.next clause atom)) (children_from at place literal atom clauses (i + 1))
    split =
        ap (children at (placed at.literals place literal) atom (i + 1)) (rest-from clauses i d clause within read)
        ∙ ap (λ n. cons_option (option_map (child_by at (placed at.literals place literal) (i + 1) clause) (head_solution at.next clause atom)) (children at (placed at.literals place literal) atom n (drop (i + 1) clauses))) (sym (add-one (i + 1)))

    solved : (o : Option Bindings) → head_solution old.next clause atom ≡ o
        → children_from at place literal atom clauses i ≡ cons_option (option_map (child_by at (placed at.literals place literal) (i + 1) clause) o) (children_from at place literal atom clauses (i + 1))
    solved o h = split ∙ ap (λ s. cons_option (option_map (child_by at (placed at.literals place literal) (i + 1) clause) s) (children_from at place literal atom clauses (i + 1))) (ap (λ n. head_solution n clause atom) own ∙ h)

    by : (a : Option CodeChild) → IsChild old new goal place atom (i + 1) clause a → Follows old new goal place literal atom clauses i (i + 1) a
    by None h = solved None h
    by (Some child) h =
        let goals : goal_at new child.goal ≡ resolvent_by at (picked_at at place) clause h.unifier = get_or_from_slice_get new.goals child.goal (resolvent_by at (picked_at at place) clause h.unifier) no_goal h.goal_ in
        let first : child_by at (placed at.literals place literal) (i + 1) clause h.unifier ≡ (let c : Child = record { clause = child.clause; count = child.count; unifier = h.unifier; goal = goal_at new child.goal } in c) =
        ap₂ (λ n g. let c : Child = record { clause = n; count = length clause.body; unifier = h.unifier; goal = g } in c) (sym h.clause_) (sym goals)
        ∙ ap (λ n. let c : Child = record { clause = child.clause; count = n; unifier = h.unifier; goal = goal_at new child.goal } in c) (sym h.count_) in
        let next : old.next + clause.vars ≡ (goal_at new child.goal).next = ap (λ n. n + clause.vars) (sym own) ∙ sym (ap (λ (g : Goal). g.next) goals) in (
          h.unifier,
          solved (Some h.unifier) h.solution ∙ ap (λ c. c ∷ children_from at place literal atom clauses (i + 1)) first,
          subst (λ n. KeepsUnder h.unifier n old new) next h.keeps_,
        )

-- no clause is left
pub none-left : (goal : Goal) (place : ℕ) (literal : Literal) (atom : Atom) (clauses : List Clause) (i : ℕ) → length clauses ≤ i → children_from goal place literal atom clauses i ≡ []
none-left goal place literal atom clauses i past = ap (children goal (placed goal.literals place literal) atom (i + 1)) (drop_all i clauses past)

-- a child is ready
pub child-ready : (old new : Snapshot) (goal place : ℕ) (atom : Atom) (number : ℕ) (clause : Clause) (child : CodeChild) → IsReadyClause clause → (goal_at old goal).next ≡ old.next → AreComputable (goal_at old goal).literals
    → IsChild old new goal place atom number clause (Some child) → IsChildReady old.next new child.goal
child-ready old new goal place atom number clause child ready own computable is =
    let at : Goal = goal_at old goal in
    let goals : goal_at new child.goal ≡ resolvent_by at (picked_at at place) clause is.unifier = get_or_from_slice_get new.goals child.goal (resolvent_by at (picked_at at place) clause is.unifier) no_goal is.goal_ in
    let next : (goal_at new child.goal).next ≡ old.next + clause.vars = ap (λ (g : Goal). g.next) goals ∙ ap (λ n. n + clause.vars) own in
    let few : clause.vars ≤ 64 = ready.clause_.few in
    let new_ : new.next ≡ old.next + clause.vars = is.keeps_.next_ in
    record {
      there = slice_get_within new.goals child.goal (resolvent_by at (picked_at at place) clause is.unifier) is.goal_;
      next_ = next ∙ sym new_;
      low = omega (arith, few, new_);
      computable = subst AreComputable (sym (ap (λ (g : Goal). g.literals) goals))
          (with-computable at place (at.next + clause.vars) (literals_under (raised at.next) clause.body) is.unifier computable (under-computable (raised at.next) clause.body ready.computable));
    }

-- the clauses of a program are ready
literals-computable : (arity : ℕ → ℕ) (predicates : ℕ) (literals : List Literal) → ((pred : ℕ) → pred < 20 → slice_get predefined_arities pred ≡ Some (arity pred)) → AllByRecursion (IsLiteral arity predicates) literals → AreComputable literals
literals-computable arity predicates [] defined h = tt
literals-computable arity predicates (literal ∷ literals) defined h = (by literal.form h.0, literals-computable arity predicates literals defined h.1)
  where
    by : (form : Form) → StandsInPlace form × HasArity arity predicates (form_atom form) → IsComputable form
    by (Pos atom) is = tt
    by (Neg atom) is = tt
    by (Calc atom) is = (is.0, defined atom.pred (let low : atom.pred < 18 = is.0 in omega arith) ∙ ap Some (sym is.1.1))
    by (Gather fold result value atom) is = tt

pub clauses-ready : (program : Program) → IsProgram program → AllByRecursion IsReadyClause program.clauses
clauses-ready program is = by program.clauses is.clauses
  where
    by : (clauses : List Clause) → AllByRecursion (IsProgramClause is.arity (predefined_count + program.users + length program.groups)) clauses → AllByRecursion IsReadyClause clauses
    by [] h = tt
    by (clause ∷ clauses) h = (record { clause_ = h.0.variables; short = h.0.short; computable = literals-computable is.arity (predefined_count + program.users + length program.groups) clause.body is.predefined h.0.body }, by clauses h.1)

pub query-computable : (program : Program) → IsProgram program → AreComputable program.query
query-computable program is = literals-computable is.arity (predefined_count + program.users + length program.groups) program.query is.predefined is.query
