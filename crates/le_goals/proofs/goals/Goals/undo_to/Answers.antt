use Rattle.std.proofs.Common.{◌≡◌, ◌<◌, length, slice_get, Some, arith}
use Rattle.std.proofs.lemmas.Option.{slice_get_read}
use Rattle.le_goals.proofs.Marks.{count-marks, back-there, back, back-now, back-marks}
use Rattle.le_goals.proofs.goals.Goals.undo_to.Goals as goal

pub index-kept-requires : goal.index-kept-requires
index-kept-requires c =
    let count : length c.self.inside.kept.items ≡ length c.args.self.now.marks = count-marks c.self.inside.program.now c.self.inside.store c.self.inside.frames.items c.self.inside.kept.items c.self.invariant c.args.self.now c.self.view_is in
    omega (arith, c.requires, count, c.self.inside.kept.ok.0)

pub undo_to-requires : goal.undo_to-requires
undo_to-requires c =
    let count : length c.self.inside.kept.items ≡ length c.args.self.now.marks = count-marks c.self.inside.program.now c.self.inside.store c.self.inside.frames.items c.self.inside.kept.items c.self.invariant c.args.self.now c.self.view_is in
    let found : slice_get c.self.inside.kept.items c.args.mark ≡ Some c.index-kept.result.now =
    slice_get_read c.self.inside.kept.items c.self.inside.kept.len c.args.mark c.index-kept.result.now c.self.inside.kept.ok.0 (omega (arith, count, c.requires, c.self.inside.kept.ok.0)) c.index-kept.ensures in
    back-there c.self.inside.program.now c.self.inside.store c.self.inside.frames.items c.self.inside.kept.items c.self.invariant c.args.mark c.index-kept.result.now found

pub overflow_add-mark : goal.overflow_add-mark
overflow_add-mark c =
    let count : length c.self.inside.kept.items ≡ length c.args.self.now.marks = count-marks c.self.inside.program.now c.self.inside.store c.self.inside.frames.items c.self.inside.kept.items c.self.invariant c.args.self.now c.self.view_is in
    let within : c.args.mark < c.self.inside.kept.len = omega (arith, count, c.requires, c.self.inside.kept.ok.0) in
    omega (arith, within, c.self.inside.kept.small)

pub invariant_of-self : goal.invariant_of-self
invariant_of-self c =
    let count : length c.self.inside.kept.items ≡ length c.args.self.now.marks = count-marks c.self.inside.program.now c.self.inside.store c.self.inside.frames.items c.self.inside.kept.items c.self.invariant c.args.self.now c.self.view_is in
    let found : slice_get c.self.inside.kept.items c.args.mark ≡ Some c.index-kept.result.now =
    slice_get_read c.self.inside.kept.items c.self.inside.kept.len c.args.mark c.index-kept.result.now c.self.inside.kept.ok.0 (omega (arith, count, c.requires, c.self.inside.kept.ok.0)) c.index-kept.ensures in
    back c.self.inside.program.now c.self.inside.store c.self.inside.frames.items c.self.inside.kept.items c.self.invariant c.args.mark c.index-kept.result.now found
    c.undo_to.new.self c.truncate.new.self.items c.truncate-2.new.self.items c.undo_to.ensures.now c.undo_to.ensures.marks c.truncate.ensures.items c.truncate-2.ensures.items

pub returns-clause-now : goal.returns-clause-now
returns-clause-now c =
    let count : length c.self.inside.kept.items ≡ length c.args.self.now.marks = count-marks c.self.inside.program.now c.self.inside.store c.self.inside.frames.items c.self.inside.kept.items c.self.invariant c.args.self.now c.self.view_is in
    let found : slice_get c.self.inside.kept.items c.args.mark ≡ Some c.index-kept.result.now =
    slice_get_read c.self.inside.kept.items c.self.inside.kept.len c.args.mark c.index-kept.result.now c.self.inside.kept.ok.0 (omega (arith, count, c.requires, c.self.inside.kept.ok.0)) c.index-kept.ensures in
    back-now c.self.inside.program.now c.self.inside.store c.self.inside.frames.items c.self.inside.kept.items c.self.invariant c.args.mark c.index-kept.result.now found
    c.undo_to.new.self.now c.truncate.new.self.items c.args.self.now c.self.view_is c.undo_to.ensures.now c.truncate.ensures.items

pub returns-clause-marks : goal.returns-clause-marks
returns-clause-marks c =
    let count : length c.self.inside.kept.items ≡ length c.args.self.now.marks = count-marks c.self.inside.program.now c.self.inside.store c.self.inside.frames.items c.self.inside.kept.items c.self.invariant c.args.self.now c.self.view_is in
    let found : slice_get c.self.inside.kept.items c.args.mark ≡ Some c.index-kept.result.now =
    slice_get_read c.self.inside.kept.items c.self.inside.kept.len c.args.mark c.index-kept.result.now c.self.inside.kept.ok.0 (omega (arith, count, c.requires, c.self.inside.kept.ok.0)) c.index-kept.ensures in
    back-marks c.self.inside.program.now c.self.inside.store c.self.inside.frames.items c.self.inside.kept.items c.self.invariant c.args.mark c.index-kept.result.now found
    c.undo_to.new.self c.truncate.new.self.items c.truncate-2.new.self.items c.args.self.now c.self.view_is c.undo_to.ensures.marks c.truncate.ensures.items c.truncate-2.ensures.items
