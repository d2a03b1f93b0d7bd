use Rattle.std.proofs.Common.{ℕ, List, ◌≡◌, ◌≤◌, ◌<◌, ◌+◌, take, length, get_or, ap, sym, subst, ◌∙◌, arith}
use Rattle.le_check.specs.Goals.{goal_of, placed}
use Rattle.le_check.proofs.Unifying.{numbers_from, found-more, missed-more, tally, tally-more, tally-all}
use Rattle.le_check.proofs.resolving.unifying_clauses.Goals.{then-is_some+in_ok-push, else-is_some}
use Rattle.le_check.proofs.resolving.unifying_clauses.Goals as goal

pub returns-in_err-push-clause-steps : goal.returns-in_err-push-clause-steps
returns-in_err-push-clause-steps g c =
    let clauses = c.args.program.now.clauses in
    let pred = c.args.atom.now.pred in
    let i = c.loop-place_of.place_of in
    let clause = c.clause-item.result in
    let within : i < length clauses = subst (λ cs. i < length cs) c.as_slice-clause-items.ensures c.loop-place_of-test.true in
    let read : clause ≡ get_or clauses i clause = c.clause-item.is ∙ ap (λ cs. get_or cs i clause) c.as_slice-clause-items.ensures in
    let more : c.unify_head.new.steps ≤ c.args.steps.now + tally pred (take (i + 1) clauses) =
    tally-more pred clauses i clause c.args.steps.now c.loop-place_of.steps c.unify_head.new.steps within read c.loop-place_of.invariant.steps c.unify_head.ensures.steps c.unify_head.ensures.others in
    let all : tally pred (take (i + 1) clauses) ≤ tally pred clauses = tally-all pred clauses (i + 1) in
    omega (arith, more, all)

pub loop-place_of-preserved : goal.loop-place_of-preserved
loop-place_of-preserved g c =
    let clauses = c.args.program.now.clauses in
    let i = c.loop-place_of.place_of in
    let clause = c.clause-item.result in
    let within : i < length clauses = subst (λ cs. i < length cs) c.as_slice-clause-items.ensures c.loop-place_of-test.true in
    let read : clause ≡ get_or clauses i clause = c.clause-item.is ∙ ap (λ cs. get_or cs i clause) c.as_slice-clause-items.ensures in
    let goal_ = goal_of c.args.goal.now in
    let atom = c.args.atom.now in
    let answer = c.in_ok-unify_head.field-0 in
    let numbers = c.loop-place_of.numbers.items in
    record {
      all = λ literal.
          let picked = placed c.args.goal.now.literals.items c.args.place literal in
          let all : List ℕ = numbers_from goal_ picked atom clauses 0 in
          elim c.if-is_some.branch [
            | then-is_some+in_ok-push w ↦ found-more goal_ picked atom clauses i clause within read answer numbers w.push.new.self.items c.if-is_some.numbers.items all
                c.in_ok-unify_head.ensures.exact (sym c.is_some.ensures ∙ w.if-is_some.true) (ap (λ v. v.items) w.numbers-is) w.in_ok-push.ensures.items (c.loop-place_of.invariant.all literal)
            | else-is_some w ↦ missed-more goal_ picked atom clauses i clause within read answer numbers c.if-is_some.numbers.items all
                c.in_ok-unify_head.ensures.exact (sym c.is_some.ensures ∙ w.if-is_some.false) (ap (λ v. v.items) w.numbers-is) (c.loop-place_of.invariant.all literal)
          ];
      steps = tally-more c.args.atom.now.pred clauses i clause c.args.steps.now c.loop-place_of.steps c.unify_head.new.steps within read c.loop-place_of.invariant.steps c.unify_head.ensures.steps c.unify_head.ensures.others;
    }
