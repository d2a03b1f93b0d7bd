use Rattle.std.proofs.Common.{◌≡◌, length, arith}
use Rattle.le_store.proofs.Views.{count_shown}
use Rattle.le_store.proofs.store.Store.cell_after.Goals as goal

pub overflow_add-result : goal.overflow_add-result
overflow_add-result c =
    let count : length c.self.inside.cells.items ≡ length c.args.self.now.now.terms = count_shown c.self.inside.cells.items c.self.inside.trail.items c.self.inside.marks.items _ c.args.self.now c.self.view_is in
    omega (arith, count, c.requires, c.self.inside.cells.ok.0)
