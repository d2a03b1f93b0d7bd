use Rattle.std.proofs.Common.{◌≡◌, ◌<◌, ◌≤◌, ◌-◌, ◌+◌, ◌++◌, [], ◌∷◌, suc, length, drop, get_or, rules, refl, sym, ap, ◌∙◌, subst, le_refl, arith}
use Rattle.le_proofs.specs.Replay.{faulty}
use Rattle.le_check.specs.Left.{Means}
use Rattle.le_check.proofs.Resuming.{ok-all, drop-end, drop-some, number-is}
use Rattle.le_check.proofs.Branching.{branch-none, branch-other, branch-next}
use Rattle.le_check.proofs.returning.next_branch.Goals as goal

pub returns-then-at-nodes-clause-means : goal.returns-then-at-nodes-clause-means
returns-then-at-nodes-clause-means g c = λ frames order whole h.
    let high : length c.args.nodes.now ≤ c.args.at = omega (arith, c.if-at-nodes.true) in
    let last : suc (length c.args.nodes.now) - 0 ≡ length c.args.nodes.now + 1 = omega arith in
    let left : c.args.frame.left.items ≡ c.pop.new.self.items ++ c.in-Some.due ∷ [] = c.in-Some.ensures.items in
    subst (Means c.args.program.now c.args.nodes.now frames order c.stopped.result)
    (sym (branch-none c.args.program.now c.args.nodes.now frames c.args.grown.nodes.items c.args.grown.found.items order whole c.args.frame c.pop.new.self.items c.in-Some.due (drop c.args.at c.args.nodes.now) left (drop-end c.args.nodes.now c.args.at high) h ∙ ap (λ n. faulty n 9) last))
    (c.stopped.ensures c.args.program.now c.args.nodes.now frames order)

pub returns-clause-means : goal.returns-clause-means
returns-clause-means g c =
    let low : c.args.at < length c.args.nodes.now = omega (arith, c.if-at-nodes.false) in
    let left : c.args.frame.left.items ≡ c.pop.new.self.items ++ c.in-Some.due ∷ [] = c.in-Some.ensures.items in
    let got : get_or c.args.nodes.now c.args.at c.index-nodes-at.result ≡ c.index-nodes-at.result = search rules in
    ok-all _ _
    (λ opening goes frames order whole h.
    goes c.args.nodes.now frames order whole
    (branch-next c.args.program.now c.args.nodes.now frames c.args.grown.nodes.items c.args.grown.found.items order whole (record { walk = c.args.frame.walk; place = c.args.frame.place; atom = c.args.frame.atom; left = c.pop.new.self }) c.args.frame (c.args.at + 1) (drop c.args.at c.args.nodes.now) (drop (c.args.at + 1) c.args.nodes.now) c.in-Branch.clause c.in-Some.due
    refl refl refl left (drop-some c.args.nodes.now c.args.at c.index-nodes-at.result low ∙ ap (λ n. n ∷ drop (c.args.at + 1) c.args.nodes.now) (got ∙ c.in-Branch.is)) (number-is c.args.nodes.now c.args.at low) h)) c.branch-alloc.result c.branch-alloc.ensures.means

pub returns-in_default-nodes : goal.returns-in_default-nodes
returns-in_default-nodes g c =
    let low : c.args.at < length c.args.nodes.now = omega (arith, c.if-at-nodes.false) in
    let left : c.args.frame.left.items ≡ c.pop.new.self.items ++ c.in-Some.due ∷ [] = c.in-Some.ensures.items in
    let got : get_or c.args.nodes.now c.args.at c.index-nodes-at.result ≡ c.index-nodes-at.result = search rules in
    record {
      means = λ frames order whole h.
          subst (Means c.args.program.now c.args.nodes.now frames order c.stopped-in_default-nodes.result)
          (sym (branch-other c.args.program.now c.args.nodes.now frames c.args.grown.nodes.items c.args.grown.found.items order whole c.args.frame c.pop.new.self.items c.in-Some.due (c.args.at + 1) (drop c.args.at c.args.nodes.now) (drop (c.args.at + 1) c.args.nodes.now) c.index-nodes-at.result left
          (drop-some c.args.nodes.now c.args.at c.index-nodes-at.result low ∙ ap (λ n. n ∷ drop (c.args.at + 1) c.args.nodes.now) got) (number-is c.args.nodes.now c.args.at low) c.in_default-nodes.not-Branch h))
          (c.stopped-in_default-nodes.ensures c.args.program.now c.args.nodes.now frames order);
      steps = le_refl _;
    }
