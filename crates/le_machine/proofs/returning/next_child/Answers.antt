use Rattle.std.proofs.Common.{◌≡◌, Some, reverse, option_map, IfSome, ap, subst}
use Rattle.le_proofs.specs.declared.node.Node.TheVariants.{Use}
use Rattle.le_machine.specs.Keeping.{goal_of, children_from}
use Rattle.le_machine.specs.Turns.{GoOn}
use Rattle.le_machine.proofs.Turning.{ok-all}
use Rattle.le_machine.proofs.Walking.{no-child, open-literal}
use Rattle.le_machine.proofs.returning.next_child.Goals as goal

pub returns-in_default-clause-comes : goal.returns-in_default-clause-comes
returns-in_default-clause-comes c = λ root total less found walk.
    let p = c.args.pending in
    no-child c.args.program.now c.args.search.now.keeps c.args.search.now.path.items c.args.search.now.nodes.items p (reverse c.args.search.now.opens.items) root total less found c.count_children.new.search
    c.count_children.ensures.same.0 c.count_children.ensures.same.1 (ap reverse c.count_children.ensures.same.2) c.count_children.ensures.nodes
    (λ literal atom read form.
    subst (λ o. GoOn (children_from (goal_of p.goal) p.place literal atom c.args.program.now.clauses p.from) (option_map (λ pair. pair.1) o) (children_from (goal_of p.goal) p.place literal atom c.args.program.now.clauses c.child_by_form.new.from)) c.in_default.is
    (c.in_ok-child.ensures.goes_on literal atom read form)) walk

pub returns-clause-comes : goal.returns-clause-comes
returns-clause-comes c =
    let p = c.args.pending in
    ok-all _ _
    (λ turn comes root total less found walk.
    let first = open-literal c.args.program.now c.args.search.now.keeps c.args.search.now.path.items c.args.search.now.nodes.items p (reverse c.args.search.now.opens.items) root total less found walk in
    let goes : GoOn (children_from (goal_of p.goal) p.place first.0 first.1 c.args.program.now.clauses p.from) (Some c.in-Some.child) (children_from (goal_of p.goal) p.place first.0 first.1 c.args.program.now.clauses c.child_by_form.new.from) =
    subst (λ o. GoOn (children_from (goal_of p.goal) p.place first.0 first.1 c.args.program.now.clauses p.from) (option_map (λ pair. pair.1) o) (children_from (goal_of p.goal) p.place first.0 first.1 c.args.program.now.clauses c.child_by_form.new.from)) c.in-Some.is
    (c.in_ok-child.ensures.goes_on first.0 first.1 first.2 first.3) in
    let node : c.in-Some.node ≡ Use c.in-Some.child.clause c.in-Some.child.count first.1 =
    subst (λ o. IfSome o (λ pair. pair.0 ≡ Use pair.1.clause pair.1.count first.1)) c.in-Some.is (c.in_ok-child.ensures.node first.0 first.1 first.2 first.3) in
    comes c.args.program.now first.0 first.1 root total less found c.requires.pending.inside first.2 first.3 node goes walk) c.enter.result c.enter.ensures.comes

pub returns-clause-opens : goal.returns-clause-opens
returns-clause-opens c = ok-all _ _ (λ turn opens. opens c.args.left c.requires.pending c.requires.opens) c.enter.result c.enter.ensures.opens
