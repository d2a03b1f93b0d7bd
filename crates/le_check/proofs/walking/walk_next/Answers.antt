use Rattle.std.proofs.Common.{◌≡◌, ◌≢◌, ◌<◌, ◌≤◌, ◌-◌, ◌+◌, [], ◌∷◌, suc, length, drop, get_or, rules, sym, ap, ◌∙◌, subst, le_refl, arith}
use Rattle.std.specs.Prelude.{IfOk}
use Rattle.std.proofs.lemmas.Result.{err_from_is_err_and}
use Rattle.le_terms.specs.declared.program.Literal.{Literal}
use Rattle.le_proofs.specs.Replay.{faulty, tree_of_kind, proofs_within, tree_within}
use Rattle.le_check.specs.Goals.{goal_of, placed, Chooses}
use Rattle.le_check.specs.Left.{Opened, Means, TreeGives}
use Rattle.le_check.proofs.Resuming.{drop-end, drop-some}
use Rattle.le_check.proofs.Growing.{left-none, err-any, tree-no-fuel, tree-none, tree-ends, tree-picks}
use Rattle.le_check.proofs.walking.walk_next.Goals as goal

pub returns-then-walk-eq0 : goal.returns-then-walk-eq0
returns-then-walk-eq0 g c = record {
  means = λ frames order whole h.
      let program = c.args.program.now in
      let nodes = c.args.nodes.now in
      let none : c.args.walk.fuel ≡ 0 = c.if-walk-eq0.true in
      let last : suc (length c.args.nodes.now) - 0 ≡ length c.args.nodes.now + 1 = omega arith in
      left-none _ _ (λ rest. Means program nodes frames order c.stopped.result rest) whole (le_refl _)
      (subst (Means program nodes frames order c.stopped.result) (sym (tree-no-fuel program nodes frames c.args.grown order whole c.args.walk.fuel c.args.walk.failed (goal_of c.args.walk.goal) (drop c.args.at nodes) none h ∙ ap (λ n. faulty n 9) last)) (c.stopped.ensures program nodes frames order));
}

pub returns-then-at-nodes : goal.returns-then-at-nodes
returns-then-at-nodes g c = record {
  means = λ frames order whole h.
      let program = c.args.program.now in
      let nodes = c.args.nodes.now in
      let some : c.args.walk.fuel ≢ 0 = c.if-walk-eq0.false in
      let one : c.args.walk.fuel ≡ suc (c.args.walk.fuel - 1) = omega arith in
      let high : length c.args.nodes.now ≤ c.args.at = omega (arith, c.if-at-nodes.true) in
      let last : suc (length c.args.nodes.now) - 0 ≡ length c.args.nodes.now + 1 = omega arith in
      left-none _ _ (λ rest. Means program nodes frames order c.stopped-then-at-nodes.result rest) whole (le_refl _)
      (subst (Means program nodes frames order c.stopped-then-at-nodes.result) (sym (tree-none program nodes frames c.args.grown order whole c.args.walk.fuel (c.args.walk.fuel - 1) c.args.walk.failed (goal_of c.args.walk.goal) (drop c.args.at nodes) one (drop-end nodes c.args.at high) h ∙ ap (λ n. faulty n 9) last)) (c.stopped-then-at-nodes.ensures program nodes frames order));
}

pub returns-in_err-turn : goal.returns-in_err-turn
returns-in_err-turn g c = record {
  means = λ frames order whole h.
      let p = err_from_is_err_and c.from_residual.result c.from_residual.ensures.1 in
      left-none _ _ (λ rest. IfOk c.from_residual.result (λ opening. Opened c.args.program.now c.args.nodes.now frames order opening rest)) whole (le_refl _) (err-any c.from_residual.result _ _ p.1);
}

pub returns-in_default : goal.returns-in_default
returns-in_default g c = record {
  means = λ frames order whole h.
      let program = c.args.program.now in
      let nodes = c.args.nodes.now in
      let walk = c.args.walk in
      let some : c.args.walk.fuel ≢ 0 = c.if-walk-eq0.false in
      let one : c.args.walk.fuel ≡ suc (c.args.walk.fuel - 1) = omega arith in
      let low : c.args.at < length c.args.nodes.now = omega (arith, c.if-at-nodes.false) in
      let none : c.args.walk.goal.literals.items ≡ [] = sym c.deref.ensures.value ∙ c.in_default.ensures.none (search rules) in
      let is : drop c.args.at c.args.nodes.now ≡ c.index-nodes-at.result ∷ drop (c.args.at + 1) c.args.nodes.now =
      let got : get_or c.args.nodes.now c.args.at c.index-nodes-at.result ≡ c.index-nodes-at.result = search rules in
      drop-some c.args.nodes.now c.args.at c.index-nodes-at.result low ∙ ap (λ n. n ∷ drop (c.args.at + 1) c.args.nodes.now) got in
      left-none _ _ (λ rest. Means program nodes frames order c.in_ok-turn.turn rest) whole (le_refl _)
      (c.in_ok-turn.ensures program nodes frames order whole (tree-ends program nodes frames c.args.grown order whole walk.fuel (walk.fuel - 1) walk.failed (goal_of walk.goal) c.args.at c.index-nodes-at.result one low is none h));
}

pub returns-in_err-kind : goal.returns-in_err-kind
returns-in_err-kind g c = record {
  means = λ frames order whole h.
      let p = err_from_is_err_and c.from_residual-in_err-kind.result c.from_residual-in_err-kind.ensures.1 in
      left-none _ _ (λ rest. IfOk c.from_residual-in_err-kind.result (λ opening. Opened c.args.program.now c.args.nodes.now frames order opening rest)) whole (le_refl _) (err-any c.from_residual-in_err-kind.result _ _ p.1);
}

pub returns : goal.returns
returns g c = record {
  means = λ frames order whole h.
      let program = c.args.program.now in
      let nodes = c.args.nodes.now in
      let walk = c.args.walk in
      let place = c.in-Some.place in
      let literal : Literal = c.index-literal.result.now in
      let some : c.args.walk.fuel ≢ 0 = c.if-walk-eq0.false in
      let one : c.args.walk.fuel ≡ suc (c.args.walk.fuel - 1) = omega arith in
      let low : c.args.at < length c.args.nodes.now = omega (arith, c.if-at-nodes.false) in
      let chosen : (c.in-Some.place < length c.args.walk.goal.literals.items) × Chooses c.args.program.now.version c.args.walk.goal.literals.items c.in-Some.place =
      subst (λ ls. (c.in-Some.place < length ls) × Chooses c.args.program.now.version ls c.in-Some.place) c.deref.ensures.value c.in-Some.ensures.place in
      let read : c.index-literal.result.now ≡ get_or c.args.walk.goal.literals.items c.in-Some.place c.index-literal.result.now = search rules in
      let is : drop c.args.at c.args.nodes.now ≡ c.index-nodes-at.result ∷ drop (c.args.at + 1) c.args.nodes.now =
      let got : get_or c.args.nodes.now c.args.at c.index-nodes-at.result ≡ c.index-nodes-at.result = search rules in
      drop-some c.args.nodes.now c.args.at c.index-nodes-at.result low ∙ ap (λ n. n ∷ drop (c.args.at + 1) c.args.nodes.now) got in
      c.by_kind.ensures.means nodes frames order whole literal c.requires.ends
      (subst (λ k. TreeGives program nodes frames c.args.grown order (tree_of_kind program (length nodes) (proofs_within program (length nodes) (walk.fuel - 1)) (tree_within program (length nodes) (walk.fuel - 1)) walk.failed (goal_of walk.goal) (placed walk.goal.literals.items place literal) literal.line (c.args.at + 1) (drop (c.args.at + 1) nodes) k) whole) (sym c.in_ok-kind.ensures)
      (tree-picks program nodes frames c.args.grown order whole walk.fuel (walk.fuel - 1) walk.failed (goal_of walk.goal) c.args.at place literal c.index-nodes-at.result one low is (chosen.1 literal read) h));
}
