-- What the key promises: a clause that is passed over has a head that doesn't unify.
use Rattle.std.specs.Prelude.{◌≡◌, ℕ, ◌+◌, ◌-◌, ◌<◌, ◌≤◌, ◌==◌, List, map, zip, slice_get, Option, Some, None, if◌then◌else◌}
use Rattle.le_terms.specs.Tree.{Tree, variable}
use Rattle.le_terms.specs.Variables.{replaced}
use Rattle.le_terms.specs.declared.program.Atom.{Atom}
use Rattle.le_terms.specs.declared.program.Clause.{Clause}
use Rattle.le_subst.specs.Unifiers.{Bindings}
use Rattle.le_subst.specs.Solution.{solve_of}
use Rattle.le_index.specs.Keys.{key_of}
use Rattle.le_index.specs.Candidates.{candidate_of}

-- a clause of this number comes before the one that was found
abbrev pub IsBefore : ℕ → Option ℕ → Type 0
IsBefore n None = Unit {0}
IsBefore n (Some found) = n < found

-- the most general unifier of a clause's head, whose variables are renamed apart by raising their numbers, and an atom
abbrev pub head_unifier : ℕ → Clause → Atom → Option Bindings
head_unifier next clause atom =
    if clause.head.pred == atom.pred then solve_of (zip (map (replaced (λ v. variable (next + v))) clause.head.args) atom.args) else None

-- a clause that is passed over from a number on has no unifier with the atom, and no instances of its head and of the atom are equal
abbrev pub PassedClausesNeverUnify : Type 0
PassedClausesNeverUnify =
    (clauses : List Clause) (atom : Atom) (from n : ℕ) (clause : Clause)
    → 1 ≤ n → slice_get clauses (n - 1) ≡ Some clause → from ≤ n → IsBefore n (candidate_of clauses atom.pred (key_of atom) from)
    → ((next : ℕ) → head_unifier next clause atom ≡ None)
    × ((of_clause of_atom : ℕ → Tree) → clause.head.pred ≡ atom.pred → map (replaced of_clause) clause.head.args ≡ map (replaced of_atom) atom.args → ⊥)
