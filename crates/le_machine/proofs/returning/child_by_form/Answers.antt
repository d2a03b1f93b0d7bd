use Rattle.std.proofs.Common.{rules, ◌≡◌, [], get_or, sym, ap, ap₂, subst, ◌∙◌}
use Rattle.le_machine.specs.Keeping.{goal_of, children_from}
use Rattle.le_machine.specs.Turns.{GoOn}
use Rattle.le_machine.proofs.SelectedAt.{same-at}
use Rattle.le_machine.proofs.returning.child_by_form.Goals as goal

pub returns-in-None-clause-goes_on : goal.returns-in-None-clause-goes_on
returns-in-None-clause-goes_on c = λ literal atom read form.
    let goal_ = goal_of c.args.goal.now in
    let there : c.index.result.now ≡ get_or c.args.goal.now.literals.items c.args.place c.index.result.now = search rules in
    let same : literal ≡ c.index.result.now = same-at c.args.goal.now.literals.items c.args.place literal c.index.result.now c.requires.inside read there in
    let atoms : atom ≡ c.in-Pos.atom = cc (sym form ∙ (ap (λ l. l.form) same ∙ c.in-Pos.is)) in
    let clauses : c.as_slice-clauses.result.now ≡ c.args.program.now.clauses = search rules in
    let none : children_from goal_ c.args.place literal c.in-Pos.atom c.as_slice-clauses.result.now c.args.from.now ≡ [] =
    subst (λ o. GoOn (children_from goal_ c.args.place literal c.in-Pos.atom c.as_slice-clauses.result.now c.args.from.now) o (children_from goal_ c.args.place literal c.in-Pos.atom c.as_slice-clauses.result.now c.next_resolvent.new.from)) c.in-None.is (c.in_ok-next_resolvent.ensures.goes_on literal) in
    ap₂ (λ a cs. children_from goal_ c.args.place literal a cs c.args.from.now) atoms (sym clauses) ∙ none
