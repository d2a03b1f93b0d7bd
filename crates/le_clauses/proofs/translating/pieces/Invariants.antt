use Rattle.std.proofs.Common.{◌≡◌, drop}
use Rattle.le_clauses.specs.Pieces.{pieces_of}
use Rattle.le_clauses.proofs.PieceSteps.{after_pieces}
use Rattle.le_clauses.proofs.translating.pieces.Given as goal

-- the pieces so far with those of what is left are all
abbrev pub invariant-loop-section : goal.invariant-loop-section
invariant-loop-section l = after_pieces l.pieces.items (pieces_of l.templates l.names l.count l.groups.items l.layout (drop l.section-index l.sections)) ≡ pieces_of l.templates l.fn.names l.fn.count l.fn.groups.items l.layout l.sections
