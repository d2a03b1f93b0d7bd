use Rattle.std.proofs.Common.{rules, ◌≡◌, ◌+◌, ◌∷◌, ◌++◌, [], length, reverse, Some, sym, ap, subst, ◌∙◌, arith}
use Rattle.le_cells.specs.declared.goals.Searches.{Searches}
use Rattle.le_cells.specs.Keeping.{goal_now, IsUnderWay, CanWaitAll, AreFalling, open_marks, waiting_marks}
use Rattle.le_cells.specs.Turns.{opens_weight, waiting_weight}
use Rattle.le_cells.proofs.Turning.{newest, ok-all, waiting-front, waiting-last, waiting-push}
use Rattle.le_cells.proofs.UnderWay.{leaf-answers}
use Rattle.le_cells.proofs.returning.leaf.Goals as goal

pub returns-in-None-clause-comes : goal.returns-in-None-clause-comes
returns-in-None-clause-comes c =
    let alone : c.args.searches.now.waiting.items ≡ [] = search rules in
    let still : c.pop.new.self.items ≡ [] = search rules in
    let after : Searches = record { inner = c.args.searches.now.inner; waiting = c.pop.new.self } in
    λ program budget given left none way.
    leaf-answers program budget given left c.args.goals.now after c.args.goal still none
    (subst (λ ws. IsUnderWay program budget given c.args.goals.now (reverse ws) c.args.searches.now.inner (Some (goal_now c.args.goals.now c.args.goal)) left) alone way)

pub returns-in-Some-clause-comes : goal.returns-in-Some-clause-comes
returns-in-Some-clause-comes c =
    let turned : reverse c.args.searches.now.waiting.items ≡ c.in-Some.waiting ∷ reverse c.pop.new.self.items = ap reverse c.in-Some.ensures.items ∙ newest c.pop.new.self.items c.in-Some.waiting in
    ok-all _ _
    (λ turn comes program budget given left none way.
    comes program budget given left none (subst (λ ws. IsUnderWay program budget given c.args.goals.now ws c.args.searches.now.inner (Some (goal_now c.args.goals.now c.args.goal)) left) turned way)) c.sub_leaf.result c.sub_leaf.ensures.comes

pub returns-in-Some-clause-opens : goal.returns-in-Some-clause-opens
returns-in-Some-clause-opens c =
    let marks = c.args.goals.now.marks in
    let turned : reverse c.args.searches.now.waiting.items ≡ c.in-Some.waiting ∷ reverse c.pop.new.self.items = ap reverse c.in-Some.ensures.items ∙ newest c.pop.new.self.items c.in-Some.waiting in
    ok-all _ _
    (λ turn opens left ready.
    let all : CanWaitAll left marks (c.pop.new.self.items ++ c.in-Some.waiting ∷ []) = subst (CanWaitAll left marks) c.in-Some.ensures.items ready.waiting in
    opens left (waiting-last left marks c.pop.new.self.items c.in-Some.waiting all)
    (subst (λ ws. AreFalling (length marks) (open_marks c.args.searches.now.inner.opens.items (waiting_marks ws))) turned ready.marked)
    ready.opens (waiting-front left marks c.pop.new.self.items c.in-Some.waiting all)) c.sub_leaf.result c.sub_leaf.ensures.opens

pub returns-in-Some-clause-lighter : goal.returns-in-Some-clause-lighter
returns-in-Some-clause-lighter c =
    ok-all _ _
    (λ turn lighter clauses.
    let less = lighter clauses in
    let pushed : waiting_weight clauses c.args.searches.now.waiting.items ≡ (2 + opens_weight clauses c.in-Some.waiting.search.opens.items) + waiting_weight clauses c.pop.new.self.items =
    ap (waiting_weight clauses) c.in-Some.ensures.items ∙ waiting-push clauses c.pop.new.self.items c.in-Some.waiting in
    omega (arith, less, pushed)) c.sub_leaf.result c.sub_leaf.ensures.lighter
