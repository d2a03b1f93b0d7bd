-- The children of a goal, clause by clause.
use Rattle.std.specs.List.{AllByRecursion, cons_option}
use Rattle.std.specs.Prelude.{option_map, slice_get}
use Rattle.std.proofs.Common.{◌≡◌, ℕ, ◌+◌, ◌<◌, ◌≤◌, List, [], ◌∷◌, drop, length, get_or, Option, Some, None, sym, ap, subst, ◌∙◌, add-one, arith}
use Rattle.std.proofs.lemmas.List.{drop_all}
use Rattle.le_terms.specs.declared.program.Atom.{Atom}
use Rattle.le_terms.specs.declared.program.Clause.{Clause}
use Rattle.le_terms.specs.declared.program.Literal.{Literal}
use Rattle.le_terms.specs.declared.program.Program.{Program}
use Rattle.le_terms.specs.Program.{IsProgram, IsProgramClause, IsLiteral, StandsInPlace, HasArity, form_atom, predefined_arities, predefined_count}
use Rattle.le_terms.specs.declared.program.Form.{Form}
use Rattle.le_terms.specs.declared.program.Form.TheVariants.{Pos, Neg, Calc, Gather}
use Rattle.le_subst.specs.Unifiers.{Bindings}
use Rattle.le_proofs.specs.Goals.{Goal, Child, children, child_by, head_solution, literals_under, raised}
use Rattle.le_machine.specs.declared.goals.Goal as code
use Rattle.le_machine.specs.declared.goals.Child as code_child
use Rattle.le_machine.specs.Keeping.{goal_of, child_of, placed, goal_with, children_from, IsComputable, AreComputable}
use Rattle.le_machine.specs.Turns.{GoOn, IsReadyClause}
use Rattle.le_machine.proofs.Turning.{under-computable, with-computable}
use Rattle.le_literals.proofs.Walks.{rest-from}

-- what the clause of a number gives for a goal
abbrev pub IsChild : code.Goal → ℕ → Atom → ℕ → Clause → Option code_child.Child → Type 0
IsChild goal place atom number clause answer =
    (literal : Literal) → option_map child_of answer ≡ option_map (child_by (goal_of goal) (placed goal.literals.items place literal) number clause) (head_solution goal.next clause atom)

-- a child by the clauses from a place on before those by the clauses from a later one, if there is one
abbrev pub Follows : Goal → ℕ → Literal → Atom → List Clause → ℕ → ℕ → Option code_child.Child → Type 0
Follows goal place literal atom clauses i j None = children_from goal place literal atom clauses i ≡ children_from goal place literal atom clauses j
Follows goal place literal atom clauses i j (Some child) = GoOn (children_from goal place literal atom clauses i) (Some child) (children_from goal place literal atom clauses j)

pub follows : (goal : code.Goal) (place : ℕ) (literal : Literal) (atom : Atom) (clauses : List Clause) (i : ℕ) (d clause : Clause) (answer : Option code_child.Child) → i < length clauses → get_or clauses i d ≡ clause → IsChild goal place atom (i + 1) clause answer
    → Follows (goal_of goal) place literal atom clauses i (i + 1) answer
follows goal place literal atom clauses i d clause answer within read is = by answer (is literal)
  where
    split : children_from (goal_of goal) place literal atom clauses i ≡ cons_option (option_map (child_by (goal_of goal) (placed goal.literals.items place literal) (i + 1) clause) (head_solution goal.next clause atom)) (children_from (goal_of goal) place literal atom clauses (i + 1))
    split =
        ap (children (goal_of goal) (placed goal.literals.items place literal) atom (i + 1)) (rest-from clauses i d clause within read)
        ∙ ap (λ n. cons_option (option_map (child_by (goal_of goal) (placed goal.literals.items place literal) (i + 1) clause) (head_solution goal.next clause atom)) (children (goal_of goal) (placed goal.literals.items place literal) atom n (drop (i + 1) clauses))) (sym (add-one (i + 1)))

    by : (a : Option code_child.Child) → option_map child_of a ≡ option_map (child_by (goal_of goal) (placed goal.literals.items place literal) (i + 1) clause) (head_solution goal.next clause atom) → Follows (goal_of goal) place literal atom clauses i (i + 1) a
    by None h = split ∙ ap (λ o. cons_option o (children_from (goal_of goal) place literal atom clauses (i + 1))) (sym h)
    by (Some child) h = split ∙ ap (λ o. cons_option o (children_from (goal_of goal) place literal atom clauses (i + 1))) (sym h)

-- no clause is left
pub none-left : (goal : Goal) (place : ℕ) (literal : Literal) (atom : Atom) (clauses : List Clause) (i : ℕ) → length clauses ≤ i → children_from goal place literal atom clauses i ≡ []
none-left goal place literal atom clauses i past = ap (children goal (placed goal.literals place literal) atom (i + 1)) (drop_all i clauses past)

-- a child is ready
pub child-ready : (goal : code.Goal) (place : ℕ) (atom : Atom) (number : ℕ) (clause : Clause) (child : code_child.Child) → IsReadyClause clause → AreComputable goal.literals.items → place < length goal.literals.items → IsChild goal place atom number clause (Some child)
    → (child.goal.next ≤ goal.next + 64) × AreComputable child.goal.literals.items
child-ready goal place atom number clause child ready computable inside is = some goal.literals.items inside
  where
    by : (literal : Literal) (o : Option Bindings) → Some (child_of child) ≡ option_map (child_by (goal_of goal) (placed goal.literals.items place literal) number clause) o → (child.goal.next ≤ goal.next + 64) × AreComputable child.goal.literals.items
    by literal None h = absurd (cc h)
    by literal (Some bindings) h =
        let goals : goal_of child.goal ≡ goal_with (goal_of goal) place (goal.next + clause.vars) (literals_under (raised goal.next) clause.body) bindings =
        let same : child_of child ≡ child_by (goal_of goal) (placed goal.literals.items place literal) number clause bindings = cc h in
        ap (λ (c : Child). c.goal) same in
        let next : child.goal.next ≡ goal.next + clause.vars = ap (λ g. g.next) goals in
        let few : clause.vars ≤ 64 = ready.clause_.few in (
          omega arith,
          subst AreComputable (sym (ap (λ g. g.literals) goals))
              (with-computable (goal_of goal) place (goal.next + clause.vars) (literals_under (raised goal.next) clause.body) bindings computable (under-computable (raised goal.next) clause.body ready.computable)),
        )

    some : (literals : List Literal) → place < length literals → (child.goal.next ≤ goal.next + 64) × AreComputable child.goal.literals.items
    some [] less = absurd (omega (arith, less))
    some (literal ∷ literals) less = by literal (head_solution goal.next clause atom) (is literal)

-- the clauses of a program are ready
literals-computable : (arity : ℕ → ℕ) (predicates : ℕ) (literals : List Literal) → ((pred : ℕ) → pred < 20 → slice_get predefined_arities pred ≡ Some (arity pred)) → AllByRecursion (IsLiteral arity predicates) literals → AreComputable literals
literals-computable arity predicates [] defined h = tt
literals-computable arity predicates (literal ∷ literals) defined h = (by literal.form h.0, literals-computable arity predicates literals defined h.1)
  where
    by : (form : Form) → StandsInPlace form × HasArity arity predicates (form_atom form) → IsComputable form
    by (Pos atom) is = tt
    by (Neg atom) is = tt
    by (Calc atom) is = (is.0, defined atom.pred (let low : atom.pred < 18 = is.0 in omega arith) ∙ ap Some (sym is.1.1))
    by (Gather fold result value atom) is = tt

pub clauses-ready : (program : Program) → IsProgram program → AllByRecursion IsReadyClause program.clauses
clauses-ready program is = by program.clauses is.clauses
  where
    by : (clauses : List Clause) → AllByRecursion (IsProgramClause is.arity (predefined_count + program.users + length program.groups)) clauses → AllByRecursion IsReadyClause clauses
    by [] h = tt
    by (clause ∷ clauses) h = (record { clause_ = h.0.variables; short = h.0.short; computable = literals-computable is.arity (predefined_count + program.users + length program.groups) clause.body is.predefined h.0.body }, by clauses h.1)

pub query-computable : (program : Program) → IsProgram program → AreComputable program.query
query-computable program is = literals-computable is.arity (predefined_count + program.users + length program.groups) program.query is.predefined is.query
