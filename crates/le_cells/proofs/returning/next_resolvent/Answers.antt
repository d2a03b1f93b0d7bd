use Rattle.std.proofs.Common.{rules, ◌-◌, Some, None, sym, subst, ◌∙◌, arith}
use Rattle.std.specs.List.{AllByRecursion}
use Rattle.le_terms.specs.Program.{form_atom}
use Rattle.le_goals.specs.Shown.{Snapshot, goal_at, literal_of}
use Rattle.le_literals.proofs.Walks.{all-at}
use Rattle.le_cells.specs.Keeping.{snapshot_at}
use Rattle.le_cells.specs.Turns.{IsChild, IsReadyClause}
use Rattle.le_cells.proofs.Children.{child-ready, clauses-ready}
use Rattle.le_cells.proofs.Passing.{clause-at, candidate-bounds}
use Rattle.le_cells.proofs.Trying.{Gives, atom_at, atom-is, answered, child-goes, goes-on, none-goes, all-tried}
use Rattle.le_cells.proofs.returning.next_resolvent.Goals as goal

pub returns-in_default-candidate-clause-goes_on : goal.returns-in_default-candidate-clause-goes_on
returns-in_default-candidate-clause-goes_on c =
    let is = answered c.args.goals.now c.args.pending c.args.clauses.now c.undo_to.new.self.now c.shape_at.result c.in-Some.shape c.key_at-key.result c.loop-from.from None c.requires.pending c.undo_to.ensures.now c.shape_at.ensures c.in-Some.is c.key_at-key.ensures (sym c.in_default-candidate.is ∙ c.candidate.ensures c.args.clauses.now c.requires.index) in
    λ literal atom read form. none-goes c.args.goals.now c.loop-from.goals c.loop-from.goals c.args.pending c.args.clauses.now c.args.from.now c.loop-from.from c.requires.next c.loop-from.invariant literal atom (atom-is c.args.goals.now.marks c.args.pending literal atom c.requires.pending read form) c.loop-from-test.true is

pub child_by-requires-clause-number : goal.child_by-requires-clause-number
child_by-requires-clause-number c =
    let is = answered c.args.goals.now c.args.pending c.args.clauses.now c.undo_to.new.self.now c.shape_at.result c.in-Some.shape c.key_at-key.result c.loop-from.from (Some c.in-Some-candidate.number) c.requires.pending c.undo_to.ensures.now c.shape_at.ensures c.in-Some.is c.key_at-key.ensures (sym c.in-Some-candidate.is ∙ c.candidate.ensures c.args.clauses.now c.requires.index) in
    let within = candidate-bounds (atom_at c.args.goals.now.marks c.args.pending) c.args.clauses.now c.loop-from.from c.in-Some-candidate.number is in
    (omega (arith, within.0), within.1)

pub child_by-requires-clause-ready : goal.child_by-requires-clause-ready
child_by-requires-clause-ready c =
    subst (λ cs. AllByRecursion IsReadyClause cs) (sym c.requires.clauses) (clauses-ready c.args.goals.now.program c.requires.program)

pub returns-in-Some-2-clause-goes_on : goal.returns-in-Some-2-clause-goes_on
returns-in-Some-2-clause-goes_on c =
    let is = answered c.args.goals.now c.args.pending c.args.clauses.now c.undo_to.new.self.now c.shape_at.result c.in-Some.shape c.key_at-key.result c.loop-from.from (Some c.in-Some-candidate.number) c.requires.pending c.undo_to.ensures.now c.shape_at.ensures c.in-Some.is c.key_at-key.ensures (sym c.in-Some-candidate.is ∙ c.candidate.ensures c.args.clauses.now c.requires.index) in
    let within = candidate-bounds (atom_at c.args.goals.now.marks c.args.pending) c.args.clauses.now c.loop-from.from c.in-Some-candidate.number is in
    let here = clause-at c.args.clauses.now (c.in-Some-candidate.number - 1) (omega (arith, within.0, within.1)) in
    let gives : Gives c.loop-from.goals c.child_by.new.goals c.args.pending c.in-Some-candidate.number here.0 (Some c.in-Some-2.child) = subst (Gives c.loop-from.goals c.child_by.new.goals c.args.pending c.in-Some-candidate.number here.0) c.in-Some-2.is (c.in_ok-child.ensures.child here.0 here.1) in
    λ literal atom read form. child-goes c.args.goals.now c.loop-from.goals c.child_by.new.goals c.args.pending c.args.clauses.now c.args.from.now c.loop-from.from c.requires.next c.loop-from.invariant c.in-Some-candidate.number here.0 c.in-Some-2.child literal atom is here.2 gives (atom-is c.args.goals.now.marks c.args.pending literal atom c.requires.pending read form)

pub returns-in-Some-2-clause-next : goal.returns-in-Some-2-clause-next
returns-in-Some-2-clause-next c =
    let is = answered c.args.goals.now c.args.pending c.args.clauses.now c.undo_to.new.self.now c.shape_at.result c.in-Some.shape c.key_at-key.result c.loop-from.from (Some c.in-Some-candidate.number) c.requires.pending c.undo_to.ensures.now c.shape_at.ensures c.in-Some.is c.key_at-key.ensures (sym c.in-Some-candidate.is ∙ c.candidate.ensures c.args.clauses.now c.requires.index) in
    let within = candidate-bounds (atom_at c.args.goals.now.marks c.args.pending) c.args.clauses.now c.loop-from.from c.in-Some-candidate.number is in
    let here = clause-at c.args.clauses.now (c.in-Some-candidate.number - 1) (omega (arith, within.0, within.1)) in
    let gives : Gives c.loop-from.goals c.child_by.new.goals c.args.pending c.in-Some-candidate.number here.0 (Some c.in-Some-2.child) = subst (Gives c.loop-from.goals c.child_by.new.goals c.args.pending c.in-Some-candidate.number here.0) c.in-Some-2.is (c.in_ok-child.ensures.child here.0 here.1) in
    let ready : IsReadyClause here.0 = all-at IsReadyClause c.args.clauses.now (c.in-Some-candidate.number - 1) here.0 (subst (λ cs. AllByRecursion IsReadyClause cs) (sym c.requires.clauses) (clauses-ready c.args.goals.now.program c.requires.program)) (omega (arith, within.0, within.1)) (sym here.2) in
    let at : Snapshot = snapshot_at c.args.goals.now.marks c.args.pending.mark in
    child-ready at c.child_by.new.goals.now c.args.pending.goal c.args.pending.place (atom_at c.args.goals.now.marks c.args.pending) c.in-Some-candidate.number here.0 c.in-Some-2.child ready c.requires.next c.requires.computable
    (subst (λ (s : Snapshot). IsChild s c.child_by.new.goals.now c.args.pending.goal c.args.pending.place (form_atom (literal_of (goal_at s c.args.pending.goal) c.args.pending.place).form) c.in-Some-candidate.number here.0 (Some c.in-Some-2.child)) c.loop-from.invariant.now_ gives)

pub returns-in-Some-2-clause-tried : goal.returns-in-Some-2-clause-tried
returns-in-Some-2-clause-tried c =
    let is = answered c.args.goals.now c.args.pending c.args.clauses.now c.undo_to.new.self.now c.shape_at.result c.in-Some.shape c.key_at-key.result c.loop-from.from (Some c.in-Some-candidate.number) c.requires.pending c.undo_to.ensures.now c.shape_at.ensures c.in-Some.is c.key_at-key.ensures (sym c.in-Some-candidate.is ∙ c.candidate.ensures c.args.clauses.now c.requires.index) in
    let within = candidate-bounds (atom_at c.args.goals.now.marks c.args.pending) c.args.clauses.now c.loop-from.from c.in-Some-candidate.number is in
    (omega (arith, within.0, c.loop-from.invariant.on), within.1)

pub loop-from-smaller : goal.loop-from-smaller
loop-from-smaller c =
    let is = answered c.args.goals.now c.args.pending c.args.clauses.now c.undo_to.new.self.now c.shape_at.result c.in-Some.shape c.key_at-key.result c.loop-from.from (Some c.in-Some-candidate.number) c.requires.pending c.undo_to.ensures.now c.shape_at.ensures c.in-Some.is c.key_at-key.ensures (sym c.in-Some-candidate.is ∙ c.candidate.ensures c.args.clauses.now c.requires.index) in
    let within = candidate-bounds (atom_at c.args.goals.now.marks c.args.pending) c.args.clauses.now c.loop-from.from c.in-Some-candidate.number is in
    omega (arith, within.0, within.1)

pub loop-from-preserved : goal.loop-from-preserved
loop-from-preserved c =
    let is = answered c.args.goals.now c.args.pending c.args.clauses.now c.undo_to.new.self.now c.shape_at.result c.in-Some.shape c.key_at-key.result c.loop-from.from (Some c.in-Some-candidate.number) c.requires.pending c.undo_to.ensures.now c.shape_at.ensures c.in-Some.is c.key_at-key.ensures (sym c.in-Some-candidate.is ∙ c.candidate.ensures c.args.clauses.now c.requires.index) in
    let within = candidate-bounds (atom_at c.args.goals.now.marks c.args.pending) c.args.clauses.now c.loop-from.from c.in-Some-candidate.number is in
    let here = clause-at c.args.clauses.now (c.in-Some-candidate.number - 1) (omega (arith, within.0, within.1)) in
    let gives : Gives c.loop-from.goals c.child_by.new.goals c.args.pending c.in-Some-candidate.number here.0 None = subst (Gives c.loop-from.goals c.child_by.new.goals c.args.pending c.in-Some-candidate.number here.0) c.in_default-2.is (c.in_ok-child.ensures.child here.0 here.1) in
    goes-on c.args.goals.now c.loop-from.goals c.child_by.new.goals c.args.pending c.args.clauses.now c.args.from.now c.loop-from.from c.requires.next c.loop-from.invariant c.in-Some-candidate.number here.0 c.undo_to-in-loop-from.new.self is here.2 gives within.0 c.in_ok-child.ensures.marks c.in_ok-child.ensures.program c.undo_to-in-loop-from.ensures.now c.undo_to-in-loop-from.ensures.marks c.undo_to-in-loop-from.ensures.program

pub returns-clause-goes_on : goal.returns-clause-goes_on
returns-clause-goes_on c =
    λ literal atom read form. all-tried c.args.goals.now c.loop-from.goals c.loop-from.goals c.args.pending c.args.clauses.now c.args.from.now c.loop-from.from c.requires.next c.loop-from.invariant literal atom (atom-is c.args.goals.now.marks c.args.pending literal atom c.requires.pending read form) (search rules)
