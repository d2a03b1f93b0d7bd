use Rattle.std.proofs.Common.{◌≡◌, ◌++◌, true, map, flat_map, drop}
use Rattle.le_match.specs.Shown.{share_pieces, text_from}
use Rattle.le_match.specs.Walks.{share_of}
use Rattle.le_match.proofs.shown.shown.Given as goal

abbrev pub invariant-loop-place : goal.invariant-loop-place
invariant-loop-place l = l.line.text ++ text_from l.layout l.line.glued (flat_map share_pieces (map (share_of l.layout) (drop l.place-index l.place-items))) ≡ text_from l.layout true (flat_map share_pieces (map (share_of l.layout) l.place-items))
