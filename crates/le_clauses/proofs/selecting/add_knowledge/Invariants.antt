use Rattle.std.proofs.Common.{◌≡◌, ◌++◌, drop}
use Rattle.le_clauses.specs.Selection.{knowledge}
use Rattle.le_clauses.proofs.selecting.add_knowledge.Given as goal

-- the clauses so far with those of what is left are all
abbrev pub invariant-loop-piece : goal.invariant-loop-piece
invariant-loop-piece l = l.clauses.items ++ knowledge (drop l.piece-index l.pieces) ≡ l.fn.clauses.items ++ knowledge l.pieces
