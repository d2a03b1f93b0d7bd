use Rattle.std.proofs.Common.{◌≡◌, length, bit_and, sym, ◌∙◌}
use Rattle.std.specs.Simd.Lanes.{zip2}
use Rattle.std.proofs.lemmas.Simd.{zip2_splat, length-zip2}
use Rattle.le_lanes.proofs.Lanes.{down, one-bits, each-second}
use Rattle.le_lanes.proofs.classes.bits_of.Goals as goal

pub overflow_shr-result : goal.overflow_shr-result
overflow_shr-result c = each-second c.args.rows c.args.numbers c.requires

pub returns : goal.returns
returns c =
    let long : length (zip2 down c.args.rows c.args.numbers) ≡ 32 = length-zip2 down c.args.rows c.args.numbers (c.fits-rows.0 ∙ sym c.fits-numbers.0) ∙ c.fits-rows.0 in
    zip2_splat bit_and (zip2 down c.args.rows c.args.numbers) 32 1 long ∙ one-bits c.args.rows c.args.numbers
