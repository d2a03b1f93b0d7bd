use Rattle.std.proofs.Common.{◌≡◌, [], List, Some, reverse, refl, sym, ap, subst}
use Rattle.le_terms.specs.declared.program.Clause.{Clause}
use Rattle.le_goals.specs.Shown.{HasLiteral}
use Rattle.le_cells.specs.Keeping.{snapshot_at, goal_of, children_from}
use Rattle.le_cells.specs.Turns.{GoOn, WalksBy}
use Rattle.le_cells.proofs.Turning.{ok-both}
use Rattle.le_cells.proofs.ChildWalks.{older-same, newest-same, no-child, next-child, open-literal}
use Rattle.le_cells.proofs.returning.next_child.Goals as goal

pub returns-in-None-clause-comes : goal.returns-in-None-clause-comes
returns-in-None-clause-comes c = λ root total less found walk.
    let p = c.args.pending in
    let old = c.args.goals.now in
    let new = c.next_resolvent.new.goals in
    no-child old.program old new c.args.search.now.keeps c.args.search.now.path.items c.args.search.now.nodes.items p (reverse c.args.search.now.opens.items) root total less found
    (older-same old.marks new.marks p.mark c.args.search.now.opens.items c.requires.marked.0 c.in_ok-next_resolvent.ensures.marks c.requires.marked.1.1) c.count_children.new.search
    c.count_children.ensures.same.0 c.count_children.ensures.same.1 (ap reverse c.count_children.ensures.same.2) c.count_children.ensures.nodes
    (λ literal atom read form.
    subst (λ (cs : List Clause). children_from (goal_of old.marks p) p.place literal atom cs p.from ≡ []) c.requires.clauses
    (subst (λ o. GoOn (snapshot_at old.marks p.mark) new.now (children_from (goal_of old.marks p) p.place literal atom c.args.clauses.now p.from) o (children_from (goal_of old.marks p) p.place literal atom c.args.clauses.now c.next_resolvent.new.from)) c.in-None.is
    (c.in_ok-next_resolvent.ensures.goes_on literal atom read form))) walk

pub returns-in-Some-clause-comes : goal.returns-in-Some-clause-comes
returns-in-Some-clause-comes c =
    let p = c.args.pending in
    let old = c.args.goals.now in
    let new = c.next_resolvent.new.goals in
    let search = c.args.search.now in
    let there : HasLiteral (snapshot_at old.marks p.mark) p.goal p.place = record { goal = c.requires.pending.ready.there; literal = c.requires.pending.inside } in
    ok-both _ _ _
    (λ turn is entered root total less found walk.
    let first = open-literal old.program old search.keeps search.path.items search.nodes.items p (reverse search.opens.items) root total less found walk in
    let goes : GoOn (snapshot_at old.marks p.mark) new.now (children_from (goal_of old.marks p) p.place first.0 first.1 old.program.clauses p.from) (Some c.in-Some.child) (children_from (goal_of old.marks p) p.place first.0 first.1 old.program.clauses c.next_resolvent.new.from) =
    subst (λ (cs : List Clause). GoOn (snapshot_at old.marks p.mark) new.now (children_from (goal_of old.marks p) p.place first.0 first.1 cs p.from) (Some c.in-Some.child) (children_from (goal_of old.marks p) p.place first.0 first.1 cs c.next_resolvent.new.from)) c.requires.clauses
    (subst (λ o. GoOn (snapshot_at old.marks p.mark) new.now (children_from (goal_of old.marks p) p.place first.0 first.1 c.args.clauses.now p.from) o (children_from (goal_of old.marks p) p.place first.0 first.1 c.args.clauses.now c.next_resolvent.new.from)) c.in-Some.is
    (c.in_ok-next_resolvent.ensures.goes_on first.0 first.1 first.2 first.3)) in
    subst (λ t. WalksBy old.program new c.enter.new.search root total t less found) (sym is)
    (next-child old.program old new search.keeps search.path.items search.nodes.items p (reverse search.opens.items) root total less found
    (older-same old.marks new.marks p.mark search.opens.items c.requires.marked.0 c.in_ok-next_resolvent.ensures.marks c.requires.marked.1.1)
    search c.enter.new.search c.in-Some.child c.next_resolvent.new.from first.0 first.1 refl refl refl refl entered (newest-same old.marks new.marks p.mark c.in_ok-next_resolvent.ensures.marks) there first.2 first.3 goes walk)) c.enter.result c.enter.ensures.turn c.enter.ensures.entered
