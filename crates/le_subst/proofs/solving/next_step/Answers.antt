use Rattle.std.proofs.Common.{◌-◌, length, take, drop, arith}
use Rattle.le_subst.specs.Symbols.{equations_of}
use Rattle.le_subst.specs.Steps.{StepMeans}
use Rattle.le_subst.proofs.Parting.{behind-sliced, behind-differ, to_end, if_ok}
use Rattle.le_subst.proofs.solving.next_step.Goals as goal

pub parted-requires-clause-sides : goal.parted-requires-clause-sides
parted-requires-clause-sides c = (behind-sliced c.args.left.now c.args.right.now c.same_len-same.result c.requires c.same_len-same.ensures.front c.same_len-same.ensures.left).sides

pub parted-requires-clause-differ : goal.parted-requires-clause-differ
parted-requires-clause-differ c =
    let n = c.same_len-same.result in
    let left = c.args.left.now in
    let right = c.args.right.now in
    behind-differ left right n c.same_len-same.ensures.differ (take (length left - n) (drop n left)) (take (length right - n) (drop n right))
    (to_end (length left - n) n left (omega arith)) (to_end (length right - n) n right (omega arith))

pub returns : goal.returns
returns c =
    let n = c.same_len-same.result in
    let left = c.args.left.now in
    let right = c.args.right.now in
    if_ok c.parted.result
    (λ step. StepMeans step (equations_of (take (length left - n) (drop n left)) (take (length right - n) (drop n right))))
    (λ step. StepMeans step (equations_of left right))
    (behind-sliced left right n c.requires c.same_len-same.ensures.front c.same_len-same.ensures.left).means c.parted.ensures
