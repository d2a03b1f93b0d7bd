use Rattle.le_match.proofs.MarkedWays.{one_skeleton}
use Rattle.le_match.proofs.laws.one_marked_reading.Goals as goal

pub returns : goal.returns
returns c = record {
  skeleton = λ l ps qs ts ks js h g. (one_skeleton l ps qs ts ks js h g).0;
  lengths = λ l ps qs ts ks js h g. (one_skeleton l ps qs ts ks js h g).1;
}
