-- What contracts see of goals in cells: the goals now, and what they were at each mark. Goals are those of Lloyd, Foundations of Logic Programming, chapter 2, section 7.
use Rattle.std.specs.Prelude.{◌≡◌, ℕ, ◌+◌, ◌<◌, Bool, true, false, List, [], ◌∷◌, ◌++◌, length, map, get_or, slice_get, take, drop, Option, Some, None}
use Rattle.le_base.specs.Ranges.{IsNumber, IsDay}
use Rattle.le_terms.specs.Tree.{Tree}
use Rattle.le_terms.specs.Program.{form_atom}
use Rattle.le_terms.specs.declared.program.Clause.{Clause}
use Rattle.le_terms.specs.declared.program.Form.{Form}
use Rattle.le_terms.specs.declared.program.Form.TheVariants.{Pos, Neg, Calc, Gather}
use Rattle.le_terms.specs.declared.program.Literal.{Literal}
use Rattle.le_terms.specs.declared.program.Program.{Program}
use Rattle.le_terms.specs.declared.term.Sym.{Sym}
use Rattle.le_terms.specs.declared.term.Sym.TheVariants.{Var, Name, Num, Day, Nil, Cons}
use Rattle.le_subst.specs.Unifiers.{Bindings, value_at}
use Rattle.le_subst.specs.Solution.{solve_of}
use Rattle.le_builtins.specs.Compute.{argument}
use Rattle.le_goals.specs.declared.reading.Kind.{Kind}
use Rattle.le_goals.specs.declared.reading.Kind.TheVariants as kinds
use Rattle.le_goals.specs.declared.reading.Shape.{Shape}
use Rattle.le_proofs.specs.Goals.{Goal, Picked, terms_under, literals_under, head_solution, resolvent_by, sub_goal}

-- the goals at one moment, each by its number, and the first variable that none of them has
pub record Snapshot : Type 0 where
  pub next : ℕ
  pub goals : List Goal

-- a program, its goals now, and what they were at each mark that stands, the first mark first
pub record Shown : Type 0 where
  pub program : Program
  pub now : Snapshot
  pub marks : List Snapshot

abbrev pub no_goal : Goal
no_goal = record { next = 0; literals = []; terms = [] }

-- the goal of a number
abbrev pub goal_at : Snapshot → ℕ → Goal
goal_at snapshot number = get_or snapshot.goals number no_goal

abbrev pub no_literal : Literal
no_literal = record { line = 0; form = Pos (record { pred = 0; args = [] }) }

-- the literal at a place of a goal
abbrev pub literal_of : Goal → ℕ → Literal
literal_of goal place = get_or goal.literals place no_literal

-- that literal with those before it and those after it
abbrev pub picked_at : Goal → ℕ → Picked Literal
picked_at goal place = record { before = take place goal.literals; chosen = literal_of goal place; behind = drop (place + 1) goal.literals }

-- there is a goal of this number, and a literal at this place of it
pub record HasLiteral (snapshot : Snapshot) (number place : ℕ) : Type 0 where
  pub goal : number < length snapshot.goals
  pub literal : place < length (goal_at snapshot number).literals

-- goals with others after them
pub record Keeps (old new : Snapshot) : Type 0 where
  pub next_ : new.next ≡ old.next
  pub more : List Goal
  pub goals_ : new.goals ≡ old.goals ++ more

-- the terms that the answers to a negation's or a gather's atom are asked for
abbrev pub sub_terms : Form → List Tree
sub_terms (Pos atom) = []
sub_terms (Neg atom) = []
sub_terms (Calc atom) = []
sub_terms (Gather fold result value atom) = value ∷ []

-- the goal of the atom of a literal alone
abbrev pub sub_goal_at : Goal → ℕ → Goal
sub_goal_at goal place =
    let literal : Literal = literal_of goal place in
    sub_goal goal literal.line (form_atom literal.form) (sub_terms literal.form)

-- a goal under a unifier, where this is the next variable afterwards
abbrev pub goal_under : Bindings → ℕ → Goal → Goal
goal_under bindings next goal = record {
  next = next;
  literals = literals_under (value_at bindings) goal.literals;
  terms = terms_under (value_at bindings) goal.terms;
}

-- all goals were put under a unifier, and others came after them
pub record KeepsUnder (bindings : Bindings) (next : ℕ) (old new : Snapshot) : Type 0 where
  pub next_ : new.next ≡ next
  pub more : List Goal
  pub goals_ : new.goals ≡ map (goal_under bindings next) old.goals ++ more

-- the resolvent of a goal and a clause, or none
abbrev pub Resolves : Snapshot → Snapshot → ℕ → ℕ → Clause → Option ℕ → Type 0
Resolves old new number place clause None =
    head_solution old.next clause (form_atom (literal_of (goal_at old number) place).form) ≡ None
Resolves old new number place clause (Some child) =
    let goal : Goal = goal_at old number in
    (bindings : Bindings)
    × (head_solution old.next clause (form_atom (literal_of goal place).form) ≡ Some bindings)
    × (slice_get new.goals child ≡ Some (resolvent_by goal (picked_at goal place) clause bindings))
    × KeepsUnder bindings (old.next + clause.vars) old new

-- what kind of literal one of this form is
abbrev pub kind_of : Form → Kind
kind_of (Pos atom) = kinds.Atom
kind_of (Neg atom) = kinds.Negation
kind_of (Calc atom) = kinds.Computed
kind_of (Gather fold result value atom) = kinds.Gather fold

-- a literal without its terms
abbrev pub shape_of : Literal → Shape
shape_of literal = record { kind = kind_of literal.form; line = literal.line; pred = (form_atom literal.form).pred }

-- an argument of the atom of the literal at a place of a goal
abbrev pub argument_at : Snapshot → ℕ → ℕ → ℕ → Tree
argument_at snapshot number place n = argument (form_atom (literal_of (goal_at snapshot number) place).form).args n

-- the result of a literal: the first argument of a computed one, and the result of a gather
abbrev pub result_of : Form → Tree
result_of (Pos atom) = argument atom.args 0
result_of (Neg atom) = argument atom.args 0
result_of (Calc atom) = argument atom.args 0
result_of (Gather fold result value atom) = result

-- the most general unifier of two terms, under which all goals are then; or they have none
abbrev pub Equates : Snapshot → Snapshot → Tree → Tree → Bool → Type 0
Equates old new left right false = solve_of ((left, right) ∷ []) ≡ None
Equates old new left right true = (bindings : Bindings) × (solve_of ((left, right) ∷ []) ≡ Some bindings) × KeepsUnder bindings old.next old new

-- a symbol is a whole term without a variable: its number or its day is one that a term may have
abbrev pub IsWholeSymbol : Sym → Type 0
IsWholeSymbol (Name n) = Unit {0}
IsWholeSymbol (Num z) = IsNumber z
IsWholeSymbol (Day d) = IsDay d
IsWholeSymbol Nil = Unit {0}
IsWholeSymbol Cons = ⊥
IsWholeSymbol (Var v) = ⊥
