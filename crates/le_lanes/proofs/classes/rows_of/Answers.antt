use Rattle.std.proofs.Common.{w8, arith}
use Rattle.std.proofs.lemmas.Simd.{SwzOk-from_below}
use Rattle.le_lanes.proofs.Lanes.{looked-up_all}
use Rattle.le_lanes.proofs.classes.rows_of.Goals as goal

pub swizzle : goal.swizzle
swizzle c = SwzOk-from_below w8 32 1 32 0 c.args.numbers (omega arith) (omega (arith, c.fits-numbers.0)) c.requires

pub returns : goal.returns
returns c = looked-up_all c.args.class.now c.args.numbers c.fits-numbers.0 c.requires
