use Rattle.std.proofs.Common.{◌≡◌, ◌≤◌, ◌-◌, ℕ, List, length}
use Rattle.le_terms.specs.declared.program.Atom.{Atom}
use Rattle.le_terms.specs.declared.program.Clause.{Clause}
use Rattle.le_terms.specs.declared.program.Literal.{Literal}
use Rattle.le_proofs.specs.Goals.{Goal}
use Rattle.le_machine.specs.Keeping.{goal_of, children_from}
use Rattle.le_machine.proofs.returning.next_resolvent.Given as goal

-- the clauses that were tried have no child
pub record Tried (goal' : Goal) (place : ℕ) (atom : Atom) (clauses : List Clause) (then_ now : ℕ) : Type 0 where
  pub same : (literal : Literal) → children_from goal' place literal atom clauses then_ ≡ children_from goal' place literal atom clauses now
  pub on : then_ ≤ now

abbrev pub invariant-loop-from : goal.invariant-loop-from
invariant-loop-from l = Tried (goal_of l.goal) l.place l.atom l.clauses l.initial.from l.from

abbrev pub decreases-loop-from : goal.decreases-loop-from
decreases-loop-from l = length l.clauses - l.from
