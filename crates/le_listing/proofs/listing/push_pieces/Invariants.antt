use Rattle.std.proofs.Common.{◌≡◌, ◌++◌, drop}
use Rattle.le_listing.specs.ClauseText.{pieces_text}
use Rattle.le_listing.proofs.listing.push_pieces.Given as goal

-- what is written so far, with the pieces that are left, is the whole
abbrev pub invariant-loop-piece : goal.invariant-loop-piece
invariant-loop-piece l = l.text ++ pieces_text l.whole (drop l.piece-index l.pieces) ≡ l.fn.text ++ pieces_text l.whole l.pieces
