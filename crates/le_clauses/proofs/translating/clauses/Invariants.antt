use Rattle.std.proofs.Common.{◌≡◌, drop}
use Rattle.le_clauses.specs.Pieces.{clauses_of}
use Rattle.le_clauses.proofs.PieceSteps.{after_clauses}
use Rattle.le_clauses.proofs.translating.clauses.Given as goal

-- the clauses so far with those of what is left are all
abbrev pub invariant-loop-span : goal.invariant-loop-span
invariant-loop-span l = after_clauses l.clauses.items (clauses_of l.templates l.names l.count l.groups.items l.layout (drop l.span-index l.spans)) ≡ clauses_of l.templates l.fn.names l.fn.count l.fn.groups.items l.layout l.spans
