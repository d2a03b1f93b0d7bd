-- Goals of a search, the literal that is selected, and what becomes of a goal by a step (Lloyd, Foundations of Logic Programming, chapter 2, section 7, and chapter 3). That variables are renamed by raising their numbers, and that the most general unifier is the solution, is this project's profile.
use Rattle.std.specs.Prelude.{ℕ, suc, ◌+◌, ◌==◌, Bool, false, not, ◌&&◌, List, [], ◌∷◌, ◌++◌, length, map, zip, Option, Some, None, option_map, if◌then◌else◌}
use Rattle.std.specs.List.{cons_option, AllByRecursion}
use Rattle.le_terms.specs.declared.program.Atom.{Atom}
use Rattle.le_terms.specs.declared.program.Form.{Form}
use Rattle.le_terms.specs.declared.program.Form.TheVariants.{Pos, Neg, Calc, Gather}
use Rattle.le_terms.specs.declared.program.Literal.{Literal}
use Rattle.le_terms.specs.declared.program.Clause.{Clause}
use Rattle.le_terms.specs.declared.program.Asked.{Asked}
use Rattle.le_terms.specs.declared.program.Program.{Program}
use Rattle.le_terms.specs.Tree.{Tree, variable}
use Rattle.le_terms.specs.Variables.{all_occurrences, replaced}
use Rattle.le_subst.specs.Unifiers.{Equation, Bindings, value_at}
use Rattle.le_subst.specs.Solution.{solve_of}

-- terms with each variable replaced by a term, all at once
abbrev pub terms_under : (ℕ → Tree) → List Tree → List Tree
terms_under by trees = map (replaced by) trees

-- an atom with its variables replaced so
abbrev pub atom_under : (ℕ → Tree) → Atom → Atom
atom_under by atom = record { pred = atom.pred; args = terms_under by atom.args }

-- a literal's form with its variables replaced so
abbrev pub form_under : (ℕ → Tree) → Form → Form
form_under by (Pos atom) = Pos (atom_under by atom)
form_under by (Neg atom) = Neg (atom_under by atom)
form_under by (Calc atom) = Calc (atom_under by atom)
form_under by (Gather fold result value atom) = Gather fold (replaced by result) (replaced by value) (atom_under by atom)

-- a literal with its variables replaced so
abbrev pub literal_under : (ℕ → Tree) → Literal → Literal
literal_under by literal = record { line = literal.line; form = form_under by literal.form }

-- literals with their variables replaced so
abbrev pub literals_under : (ℕ → Tree) → List Literal → List Literal
literals_under by literals = map (literal_under by) literals

-- an atom has no variable
abbrev pub is_ground_atom : Atom → Bool
is_ground_atom atom = length (all_occurrences atom.args) == 0

-- a negation whose atom holds a variable
abbrev pub is_open_negation : Form → Bool
is_open_negation (Pos atom) = false
is_open_negation (Neg atom) = not (is_ground_atom atom)
is_open_negation (Calc atom) = false
is_open_negation (Gather fold result value atom) = false

-- a literal is passed over when one is selected: in version 2 a negation whose atom holds a variable, in version 1 none
abbrev pub is_delayed : ℕ → Literal → Bool
is_delayed version literal = version == 2 && is_open_negation literal.form

-- one of some things, with those before it and those after it
pub record Picked (X : Type 0) : Type 0 where
  pub before : List X
  pub chosen : X
  pub behind : List X

-- the first of some things that isn't passed over
abbrev pub pick : {X : Type 0} → (X → Bool) → List X → Option (Picked X)
pick is_passed [] = None
pick is_passed (x ∷ xs) =
    if is_passed x then option_map (λ picked. record { before = x ∷ picked.before; chosen = picked.chosen; behind = picked.behind }) (pick is_passed xs)
    else Some (record { before = []; chosen = x; behind = xs })

-- the selected literal of a goal: in version 1 its first, in version 2 its first that isn't a negation whose atom holds a variable; none where there is no such literal
abbrev pub selected : ℕ → List Literal → Option (Picked Literal)
selected version literals = pick (is_delayed version) literals

-- a goal of a search: the number of the next variable, the literals that are still to be refuted, and the terms of the answer so far
pub record Goal : Type 0 where
  pub next : ℕ
  pub literals : List Literal
  pub terms : List Tree

-- the variable of a clause, renamed apart from those of a goal: its number is raised by the goal's next one
abbrev pub raised : ℕ → ℕ → Tree
raised next v = variable (next + v)

-- the equations that make a clause's head, renamed apart, and an atom equal, argument by argument
abbrev pub head_equations : ℕ → Clause → Atom → List Equation
head_equations next clause atom = zip (terms_under (raised next) clause.head.args) atom.args

-- the most general unifier of a clause's head, renamed apart, and an atom, or none
abbrev pub head_solution : ℕ → Clause → Atom → Option Bindings
head_solution next clause atom = if clause.head.pred == atom.pred then solve_of (head_equations next clause atom) else None

-- some literals in the place of the selected one
abbrev pub put_in_place : {X : Type 0} → Picked X → List X → List X
put_in_place picked new = picked.before ++ (new ++ picked.behind)

-- the rest of a goal: its literals without the selected one
abbrev pub rest_of : Picked Literal → List Literal
rest_of picked = put_in_place picked []

-- the resolvent that a unifier gives: the clause's body, renamed apart, in the selected literal's place, and the terms, all under the unifier
abbrev pub resolvent_by : Goal → Picked Literal → Clause → Bindings → Goal
resolvent_by goal picked clause bindings = record {
  next = goal.next + clause.vars;
  literals = literals_under (value_at bindings) (put_in_place picked (literals_under (raised goal.next) clause.body));
  terms = terms_under (value_at bindings) goal.terms;
}

-- the goal without the selected literal, under a unifier
abbrev pub rest_by : Goal → Picked Literal → Bindings → Goal
rest_by goal picked bindings = record {
  next = goal.next;
  literals = literals_under (value_at bindings) (rest_of picked);
  terms = terms_under (value_at bindings) goal.terms;
}

-- the goal without the selected literal
abbrev pub rest_goal : Goal → Picked Literal → Goal
rest_goal goal picked = record { next = goal.next; literals = rest_of picked; terms = goal.terms }

-- the goal of a subsidiary search: one atom, with the terms that its answers are asked for
abbrev pub sub_goal : Goal → ℕ → Atom → List Tree → Goal
sub_goal goal line atom terms = record { next = goal.next; literals = record { line = line; form = Pos atom } ∷ []; terms = terms }

-- a child of a goal whose selected literal is an atom: the clause's number, how many literals its body has, the unifier, and the resolvent
pub record Child : Type 0 where
  pub clause : ℕ
  pub count : ℕ
  pub unifier : Bindings
  pub goal : Goal

-- the child by one clause of this number
abbrev pub child_by : Goal → Picked Literal → ℕ → Clause → Bindings → Child
child_by goal picked number clause bindings = record { clause = number; count = length clause.body; unifier = bindings; goal = resolvent_by goal picked clause bindings }

-- the children of a goal whose selected literal is this atom, by some clauses that are numbered from this number on, in their order
abbrev pub children : Goal → Picked Literal → Atom → ℕ → List Clause → List Child
children goal picked atom number [] = []
children goal picked atom number (clause ∷ clauses) =
    cons_option (option_map (child_by goal picked number clause) (head_solution goal.next clause atom)) (children goal picked atom (suc number) clauses)

-- the variables that are asked for
abbrev pub asked_terms : List Asked → List Tree
asked_terms asked = map (λ one. variable one.var) asked

-- the goal that a program's query begins with
abbrev pub root_of : Program → Goal
root_of program = record { next = program.vars; literals = program.query; terms = asked_terms program.asked }

-- a literal's form is an atom
abbrev pub IsAtom : Form → Type 0
IsAtom (Pos atom) = Unit {0}
IsAtom (Neg atom) = ⊥
IsAtom (Calc atom) = ⊥
IsAtom (Gather fold result value atom) = ⊥

-- each of some literals is an atom
abbrev pub AreAtoms : List Literal → Type 0
AreAtoms literals = AllByRecursion (λ literal. IsAtom literal.form) literals

-- each literal of a program is an atom: what the search knows
pub record HasAtomsAlone (program : Program) : Type 0 where
  pub bodies : AllByRecursion (λ clause. AreAtoms clause.body) program.clauses
  pub query : AreAtoms program.query
