use Rattle.std.proofs.Common.{◌==◌, if◌then◌else◌, ap, ◌∙◌}
use Rattle.std.specs.List.{prefix_len}
use Rattle.std.specs.Simd.Lanes.{chunk}
use Rattle.le_lanes.specs.Next.{fails, is_match}
use Rattle.le_lanes.proofs.Lanes.{prefix-map, match-zero}
use Rattle.le_lanes.proofs.keys.passed_keys.Goals as goal

pub returns : goal.returns
returns c =
    c.first_zero.ensures
    ∙ (ap (prefix_len (fails (λ one. one == 0))) c.zero_for.ensures
    ∙ prefix-map (λ one. one == 0) (is_match c.args.key) (λ one. if one == c.args.key then 0 else one) (match-zero c.args.key) (chunk c.args.at 16 c.args.keys.now))
