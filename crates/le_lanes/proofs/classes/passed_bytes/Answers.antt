use Rattle.std.proofs.Common.{◌==◌, ◌/◌, ◌%◌, ◌^◌, get_or, refl, ap, ◌∙◌}
use Rattle.std.specs.List.{prefix_len}
use Rattle.std.specs.Simd.Lanes.{chunk}
use Rattle.le_lanes.specs.Next.{fails, is_in}
use Rattle.le_lanes.proofs.Lanes.{prefix-map}
use Rattle.le_lanes.proofs.classes.passed_bytes.Goals as goal

pub returns : goal.returns
returns c =
    c.first_one.ensures
    ∙ (ap (prefix_len (fails (λ one. one == 1))) c.class_bits.ensures
    ∙ prefix-map (λ one. one == 1) (is_in c.args.class.now) (λ byte. get_or c.args.class.now (byte / 8) 0 / 2 ^ (byte % 8) % 2) (λ byte. refl) (chunk c.args.at 32 c.args.bytes.now))
