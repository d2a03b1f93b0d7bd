use Rattle.std.proofs.Common.{◌-◌, Some, None, subst, ◌∙◌, sym, arith}
use Rattle.le_machine.specs.Keeping.{goal_of, children_from}
use Rattle.le_machine.specs.Turns.{IsReadyClause, GoOn}
use Rattle.le_literals.proofs.Walks.{all-at}
use Rattle.le_machine.proofs.Children.{IsChild, child-ready}
use Rattle.le_machine.proofs.Passing.{asked, no-candidate, candidate-bounds, candidate-follows}
use Rattle.le_machine.proofs.returning.next_resolvent.Goals as goal

pub returns-in_default-clause-goes_on : goal.returns-in_default-clause-goes_on
returns-in_default-clause-goes_on c =
    let is = asked c.args.clauses.now c.args.atom.now c.key_of-key.result c.loop-from.from None c.key_of-key.ensures (c.in_default.ensures c.args.clauses.now c.requires.index) in
    λ literal. c.loop-from.invariant.same literal ∙ no-candidate c.args.goal.now c.args.place literal c.args.atom.now c.args.clauses.now c.loop-from.from c.loop-from-test.true is

pub overflow_sub-clause : goal.overflow_sub-clause
overflow_sub-clause c =
    let is = asked c.args.clauses.now c.args.atom.now c.key_of-key.result c.loop-from.from (Some c.in-Some.number) c.key_of-key.ensures (c.in-Some.ensures c.args.clauses.now c.requires.index) in
    let within = candidate-bounds c.args.atom.now c.args.clauses.now c.loop-from.from c.in-Some.number is in
    omega (arith, within.0)

pub bounds-clauses-from : goal.bounds-clauses-from
bounds-clauses-from c =
    let is = asked c.args.clauses.now c.args.atom.now c.key_of-key.result c.loop-from.from (Some c.in-Some.number) c.key_of-key.ensures (c.in-Some.ensures c.args.clauses.now c.requires.index) in
    let within = candidate-bounds c.args.atom.now c.args.clauses.now c.loop-from.from c.in-Some.number is in
    omega (arith, within.0, within.1)

pub resolve-requires-clause-clause : goal.resolve-requires-clause-clause
resolve-requires-clause-clause c =
    let is = asked c.args.clauses.now c.args.atom.now c.key_of-key.result c.loop-from.from (Some c.in-Some.number) c.key_of-key.ensures (c.in-Some.ensures c.args.clauses.now c.requires.index) in
    let within = candidate-bounds c.args.atom.now c.args.clauses.now c.loop-from.from c.in-Some.number is in
    let ready : IsReadyClause c.index-clauses-from.result = all-at IsReadyClause c.args.clauses.now (c.in-Some.number - 1) c.index-clauses-from.result c.requires.clauses (omega (arith, within.0, within.1)) c.index-clauses-from.is in
    ready.clause_

pub resolve-requires-clause-short : goal.resolve-requires-clause-short
resolve-requires-clause-short c =
    let is = asked c.args.clauses.now c.args.atom.now c.key_of-key.result c.loop-from.from (Some c.in-Some.number) c.key_of-key.ensures (c.in-Some.ensures c.args.clauses.now c.requires.index) in
    let within = candidate-bounds c.args.atom.now c.args.clauses.now c.loop-from.from c.in-Some.number is in
    let ready : IsReadyClause c.index-clauses-from.result = all-at IsReadyClause c.args.clauses.now (c.in-Some.number - 1) c.index-clauses-from.result c.requires.clauses (omega (arith, within.0, within.1)) c.index-clauses-from.is in
    ready.short

pub returns-in-Some-2-clause-goes_on : goal.returns-in-Some-2-clause-goes_on
returns-in-Some-2-clause-goes_on c =
    let is = asked c.args.clauses.now c.args.atom.now c.key_of-key.result c.loop-from.from (Some c.in-Some.number) c.key_of-key.ensures (c.in-Some.ensures c.args.clauses.now c.requires.index) in
    let child : IsChild c.args.goal.now c.args.place c.args.atom.now c.in-Some.number c.index-clauses-from.result (Some c.in-Some-2.child) = subst (IsChild c.args.goal.now c.args.place c.args.atom.now c.in-Some.number c.index-clauses-from.result) c.in-Some-2.is c.in_ok-child.ensures in
    λ literal.
    subst (λ all. GoOn all (Some c.in-Some-2.child) (children_from (goal_of c.args.goal.now) c.args.place literal c.args.atom.now c.args.clauses.now c.in-Some.number)) (sym (c.loop-from.invariant.same literal))
    (candidate-follows c.args.goal.now c.args.place literal c.args.atom.now c.args.clauses.now c.loop-from.from c.in-Some.number c.index-clauses-from.result c.index-clauses-from.result (Some c.in-Some-2.child) is (sym c.index-clauses-from.is) child)

pub returns-in-Some-2-clause-next : goal.returns-in-Some-2-clause-next
returns-in-Some-2-clause-next c =
    let is = asked c.args.clauses.now c.args.atom.now c.key_of-key.result c.loop-from.from (Some c.in-Some.number) c.key_of-key.ensures (c.in-Some.ensures c.args.clauses.now c.requires.index) in
    let within = candidate-bounds c.args.atom.now c.args.clauses.now c.loop-from.from c.in-Some.number is in
    let ready : IsReadyClause c.index-clauses-from.result = all-at IsReadyClause c.args.clauses.now (c.in-Some.number - 1) c.index-clauses-from.result c.requires.clauses (omega (arith, within.0, within.1)) c.index-clauses-from.is in
    let child : IsChild c.args.goal.now c.args.place c.args.atom.now c.in-Some.number c.index-clauses-from.result (Some c.in-Some-2.child) = subst (IsChild c.args.goal.now c.args.place c.args.atom.now c.in-Some.number c.index-clauses-from.result) c.in-Some-2.is c.in_ok-child.ensures in
    child-ready c.args.goal.now c.args.place c.args.atom.now c.in-Some.number c.index-clauses-from.result c.in-Some-2.child ready c.requires.computable c.requires.inside child

pub returns-in-Some-2-clause-tried : goal.returns-in-Some-2-clause-tried
returns-in-Some-2-clause-tried c =
    let is = asked c.args.clauses.now c.args.atom.now c.key_of-key.result c.loop-from.from (Some c.in-Some.number) c.key_of-key.ensures (c.in-Some.ensures c.args.clauses.now c.requires.index) in
    let within = candidate-bounds c.args.atom.now c.args.clauses.now c.loop-from.from c.in-Some.number is in
    (omega (arith, within.0, c.loop-from.invariant.on), within.1)

pub loop-from-smaller : goal.loop-from-smaller
loop-from-smaller c =
    let is = asked c.args.clauses.now c.args.atom.now c.key_of-key.result c.loop-from.from (Some c.in-Some.number) c.key_of-key.ensures (c.in-Some.ensures c.args.clauses.now c.requires.index) in
    let within = candidate-bounds c.args.atom.now c.args.clauses.now c.loop-from.from c.in-Some.number is in
    omega (arith, within.0, within.1)

pub loop-from-preserved : goal.loop-from-preserved
loop-from-preserved c =
    let is = asked c.args.clauses.now c.args.atom.now c.key_of-key.result c.loop-from.from (Some c.in-Some.number) c.key_of-key.ensures (c.in-Some.ensures c.args.clauses.now c.requires.index) in
    let within = candidate-bounds c.args.atom.now c.args.clauses.now c.loop-from.from c.in-Some.number is in
    let child : IsChild c.args.goal.now c.args.place c.args.atom.now c.in-Some.number c.index-clauses-from.result None = subst (IsChild c.args.goal.now c.args.place c.args.atom.now c.in-Some.number c.index-clauses-from.result) c.in_default-2.is c.in_ok-child.ensures in
    record {
      same = λ literal.
          c.loop-from.invariant.same literal
          ∙ candidate-follows c.args.goal.now c.args.place literal c.args.atom.now c.args.clauses.now c.loop-from.from c.in-Some.number c.index-clauses-from.result c.index-clauses-from.result None is (sym c.index-clauses-from.is) child;
      on = omega (arith, within.0, c.loop-from.invariant.on);
    }
