use Rattle.std.proofs.Common.{rules, ◌≡◌, ◌<◌, ◌^◌, ◌+◌, subst, arith}
use Rattle.le_cells.specs.State.{Advances}
use Rattle.le_cells.specs.declared.goals.Found.{Found}
use Rattle.le_cells.specs.declared.goals.Found.TheVariants.{Leaf}
use Rattle.le_cells.proofs.Advancing.{given-fits}
use Rattle.le_cells.proofs.machine.Machine.next.Goals as goal

pub overflow_add-self : goal.overflow_add-self
overflow_add-self c =
    let m = c.self.inside in
    let same : c.in-Ok-Leaf.field-0 ≡ Leaf c.in-Ok-Leaf.number = search rules in
    let found : Advances m.program.now m.budget m.given (Leaf c.in-Ok-Leaf.number) c.advance-found.new.left c.advance-found.new.goals c.advance-found.new.searches =
    subst (λ (f : Found). Advances m.program.now m.budget m.given f c.advance-found.new.left c.advance-found.new.goals c.advance-found.new.searches) same
    (c.in-Ok-Leaf.ensures-1.found m.budget m.given m.leaf c.self.invariant.small c.self.invariant.stands) in
    let fits : m.given + 1 < 2 ^ 64 = given-fits m.program.now m.budget m.given c.self.invariant.program_ c.self.invariant.small found.0 in
    omega arith
