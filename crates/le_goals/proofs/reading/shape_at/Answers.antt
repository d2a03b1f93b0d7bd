use Rattle.std.proofs.Common.{◌+◌}
use Rattle.le_goals.proofs.Spots.{get-from}
use Rattle.le_goals.proofs.Shapes.{shape-found}
use Rattle.le_goals.proofs.reading.shape_at.Goals as goal

pub returns : goal.returns
returns c = λ cells.
    shape-found c.args.program.now c.requires.frames.0 cells c.args.frames.now c.args.goal c.args.place c.in_ok-spot.spot (c.in_ok-spot.ensures c.args.program.now c.requires.frames.0 c.requires.frames.1) c.index-literals_in-spot.result _ c.seen_as.result
    (get-from c.literals_in.result.now _ (c.in_ok-spot.spot.part.from + c.in_ok-spot.spot.left) c.index-literals_in-spot.result _ c.index-literals_in-spot.is c.literals_in.ensures) c.seen_as.ensures
