use Rattle.std.proofs.Common.{◌+◌, length}
use Rattle.le_goals.proofs.Spots.{get-from}
use Rattle.le_goals.proofs.ReadLiterals.{literal-there, literal-found}
use Rattle.le_goals.proofs.goals.reading.literal_in.Goals as goal

pub shown_literal-requires : goal.shown_literal-requires
shown_literal-requires c =
    literal-there c.args.program.now c.requires.program c.args.store.now c.args.frames.now c.args.goal c.args.place c.in-Some.spot (c.in-Some.ensures c.args.program.now (length c.args.store.now.now.terms) c.requires.frames) c.index-literals_in-part.result _
    (get-from c.literals_in.result.now _ (c.in-Some.spot.part.from + c.in-Some.spot.left) c.index-literals_in-part.result _ c.index-literals_in-part.is c.literals_in.ensures)

pub returns : goal.returns
returns c =
    literal-found c.args.program.now (length c.args.store.now.now.terms) c.args.store.now.now c.args.frames.now c.args.goal c.args.place c.in-Some.spot (c.in-Some.ensures c.args.program.now (length c.args.store.now.now.terms) c.requires.frames) c.index-literals_in-part.result _ c.in_ok-shown.shown
    (get-from c.literals_in.result.now _ (c.in-Some.spot.part.from + c.in-Some.spot.left) c.index-literals_in-part.result _ c.index-literals_in-part.is c.literals_in.ensures) c.in_ok-shown.ensures
