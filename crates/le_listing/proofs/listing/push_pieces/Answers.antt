use Rattle.std.proofs.Common.{refl}
use Rattle.le_listing.specs.ClauseText.{piece_text, pieces_text}
use Rattle.le_listing.proofs.Steps.{one_more}
use Rattle.le_listing.proofs.listing.push_pieces.Goals as goal

pub loop-piece-preserved : goal.loop-piece-preserved
loop-piece-preserved c =
    one_more (pieces_text c.args.whole.now) (piece_text c.args.whole.now c.piece-item.result) c.args.pieces.now c.loop-piece.piece-index c.piece-item.result c.loop-piece.text c.push_piece.new.text _
    c.loop-piece-test.true c.piece-item.is refl c.in_ok-push_piece.ensures c.loop-piece.invariant
