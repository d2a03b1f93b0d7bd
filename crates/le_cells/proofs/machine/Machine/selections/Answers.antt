use Rattle.std.proofs.Common.{◌-◌, subst}
use Rattle.le_cells.specs.State.{Shown, Selections}
use Rattle.le_cells.proofs.Advancing.{selections-are}
use Rattle.le_cells.proofs.machine.Machine.selections.Goals as goal

pub returns : goal.returns
returns c =
    let m = c.self.inside in
    subst (λ (s : Shown). Selections s s.phase (m.budget - m.left)) c.self.view_is (selections-are m.program.now m.budget m.given m.phase m.left m.goals m.searches m.leaf c.self.invariant.stands)
