use Rattle.std.proofs.Common.{◌==◌, sym, ◌∙◌, arith}
use Rattle.std.proofs.lemmas.Simd.{leading_from_mask_l, trailing_mask_l}
use Rattle.le_lanes.proofs.classes.first_one.Goals as goal

pub returns-then-mask-eq0 : goal.returns-then-mask-eq0
returns-then-mask-eq0 c = sym (leading_from_mask_l (λ one. one == 1) c.args.lanes (sym c.one_mask-mask.ensures ∙ c.if-mask-eq0.true) ∙ c.fits-lanes.0)

pub returns-else-mask-eq0 : goal.returns-else-mask-eq0
returns-else-mask-eq0 c =
    rw c.one_mask-mask.ensures (trailing_mask_l (λ one. one == 1) 64 c.args.lanes (omega (arith, c.fits-lanes.0)) (omega (arith, c.one_mask-mask.ensures, c.if-mask-eq0.false)))
