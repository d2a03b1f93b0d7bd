use Rattle.std.proofs.Common.{◌≤◌, ◌<◌, length, sym, subst, refl, ◌∙◌, arith}
use Rattle.std.specs.List.{AllByRecursion}
use Rattle.le_machine.proofs.Built.{AreBuilt, AreBuiltClauses, program-built}
use Rattle.le_machine.proofs.building.program.Goals as goal

pub returns : goal.returns
returns c =
    let few : length c.in_ok-clauses.field-0.items ≤ 30 = omega (arith, c.in_ok-clauses.ensures.few) in
    let clauses : AreBuiltClauses c.in_ok-clauses.field-0.items 30 = record { clauses_ = c.in_ok-clauses.ensures.clauses; few = few } in
    let query : AreBuilt c.in_ok-literals.field-0.items 60 = record { literals_ = c.in_ok-literals.ensures.literals; variables = c.in_ok-literals.ensures.variables; few = c.in_ok-literals.ensures.few } in
    program-built _ 30 60 (omega arith)
    (subst (λ cs. AreBuiltClauses cs 30) (sym c.from_vec.ensures) clauses)
    (subst (λ ls. AreBuilt ls 60) (sym c.from_vec-2.ensures) query)
    (subst (AllByRecursion (λ one. one.var < 4)) (sym c.from_vec-3.ensures) c.in_ok-asked.ensures)
    refl refl (c.from_vec-4.ensures ∙ c.new.ensures.items) refl
