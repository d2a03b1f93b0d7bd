use Rattle.std.proofs.Common.{sym, subst, refl, arith}
use Rattle.le_machine.proofs.Built.{AreBuilt, clause-built}
use Rattle.le_machine.proofs.building.clause.Goals as goal

pub returns : goal.returns
returns c =
    let built : AreBuilt c.in_ok-literals.field-0.items 60 = record { literals_ = c.in_ok-literals.ensures.literals; variables = c.in_ok-literals.ensures.variables; few = c.in_ok-literals.ensures.few } in
    record { clause = clause-built _ 60 (omega arith) c.in_ok-atom.ensures.pred c.in_ok-atom.ensures.arity c.in_ok-atom.ensures.variables (subst (λ ls. AreBuilt ls 60) (sym c.from_vec.ensures) built) refl }
