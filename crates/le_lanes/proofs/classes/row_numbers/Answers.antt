use Rattle.std.proofs.lemmas.Simd.{zip2_splat}
use Rattle.le_lanes.proofs.Lanes.{down}
use Rattle.le_lanes.proofs.classes.row_numbers.Goals as goal

pub returns : goal.returns
returns c = zip2_splat down c.args.lanes 32 3 c.fits-lanes.0
