use Rattle.std.proofs.Common.{◌≡◌, ◌≤◌, ◌+◌, ◌++◌, map, take, drop}
use Rattle.std.specs.Prelude.{◌==◌, count_by}
use Rattle.le_terms.specs.declared.program.Literal.{Literal}
use Rattle.le_proofs.specs.Goals.{Child, children}
use Rattle.le_check.specs.Goals.{goal_of, placed}
use Rattle.le_check.proofs.resolving.unifying_clauses.Given as goal

-- the numbers so far, with those of the clauses that are left, are all of them
abbrev pub invariant-loop-place_of : goal.invariant-loop-place_of
invariant-loop-place_of g l = record {
  all : (literal : Literal) → l.numbers.items ++ map (λ (child : Child). child.clause) (children (goal_of l.goal) (placed l.goal.literals.items l.place literal) l.atom (l.place_of + 1) (drop l.place_of l.program.clauses)) ≡ map (λ (child : Child). child.clause) (children (goal_of l.goal) (placed l.goal.literals.items l.place literal) l.atom 1 l.program.clauses);
  steps : l.steps ≤ l.fn.steps + count_by (λ clause. clause.head.pred == l.atom.pred) (take l.place_of l.program.clauses);
}
