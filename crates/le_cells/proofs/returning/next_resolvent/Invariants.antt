use Rattle.std.proofs.Common.{◌-◌, length}
use Rattle.le_cells.proofs.Trying.{Tried}
use Rattle.le_cells.proofs.returning.next_resolvent.Given as goal

abbrev pub invariant-loop-from : goal.invariant-loop-from
invariant-loop-from l = Tried l.fn.goals l.goals l.pending l.clauses l.fn.from l.from

abbrev pub decreases-loop-from : goal.decreases-loop-from
decreases-loop-from l = length l.clauses - l.from
