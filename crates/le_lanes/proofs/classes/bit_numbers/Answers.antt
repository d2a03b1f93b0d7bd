use Rattle.std.proofs.Common.{bit_and, ◌∙◌}
use Rattle.std.proofs.lemmas.Simd.{zip2_splat}
use Rattle.le_lanes.proofs.Lanes.{low-bits}
use Rattle.le_lanes.proofs.classes.bit_numbers.Goals as goal

pub returns : goal.returns
returns c = zip2_splat bit_and c.args.lanes 32 7 c.fits-lanes.0 ∙ low-bits c.args.lanes
