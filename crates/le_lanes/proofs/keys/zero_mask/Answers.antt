use Rattle.std.proofs.Common.{w32, eqb, arith}
use Rattle.std.proofs.lemmas.Simd.{bitmask_splat}
use Rattle.le_lanes.proofs.keys.zero_mask.Goals as goal

pub returns : goal.returns
returns c = bitmask_splat w32 eqb c.args.lanes 16 0 c.fits-lanes.0 (omega arith)
