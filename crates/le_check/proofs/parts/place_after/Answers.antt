use Rattle.std.proofs.Common.{◌≡◌, drop, ap, ◌∙◌, sym, refl, arith}
use Rattle.le_proofs.specs.Replay.{behind}
use Rattle.le_check.proofs.Passing.{one-more, at-end-of}
use Rattle.le_check.proofs.parts.place_after.Goals as goal

pub loop-left-preserved : goal.loop-left-preserved
loop-left-preserved c =
    let more = one-more c.args.nodes.now c.args.ends.now c.args.from c.args.count c.loop-left.at c.loop-left.left _ c.requires.ends c.loop-left.invariant.low c.if-at-nodes.true c.loop-left-test.true refl c.loop-left.invariant.rest in
    record { low = more.0; high = more.1; rest = more.2 }

pub returns-else-at-nodes-clause-rest : goal.returns-else-at-nodes-clause-rest
returns-else-at-nodes-clause-rest c = at-end-of c.args.nodes.now c.loop-left.at c.loop-left.left _ c.if-at-nodes.false c.loop-left.invariant.rest

pub returns-after-loop-left-clause-rest : goal.returns-after-loop-left-clause-rest
returns-after-loop-left-clause-rest c =
    let none : c.loop-left.left ≡ 0 = omega (arith, c.loop-left-test.false) in
    ap (λ n. behind n (drop c.loop-left.at c.args.nodes.now)) (sym none) ∙ c.loop-left.invariant.rest
