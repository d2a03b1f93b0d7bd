use Rattle.std.proofs.Common.{◌≡◌, ◌+◌, ◌≤◌, ◌++◌, map, drop, slice_range}
use Rattle.std.specs.List.{All}
use Rattle.le_match.specs.Shares.{Fits, shares}
use Rattle.le_match.specs.Walks.{IsPlace, share_of, total_size}
use Rattle.le_match.proofs.sharing.places_of.Given as goal

abbrev pub invariant-loop-part : goal.invariant-loop-part
invariant-loop-part l = record {
  inside : l.at ≤ l.fn.tokens.to;
  few : l.fn.tokens.from + total_size l.found.items ≤ l.at;
  within : All (IsPlace l.layout) l.found.items;
  fits : Fits l.layout l.edge (drop l.part-index l.parts) (slice_range l.layout.tokens l.at l.fn.tokens.to) (drop l.slot l.lengths);
  shared : map (share_of l.layout) l.found.items ++ shares l.edge (drop l.part-index l.parts) (drop l.slot l.lengths) (slice_range l.layout.tokens l.at l.fn.tokens.to)
      ≡ shares l.edge l.parts l.lengths (slice_range l.layout.tokens l.fn.tokens.from l.fn.tokens.to);
}
