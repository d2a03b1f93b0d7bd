use Rattle.std.proofs.Common.{◌≡◌, drop, refl, sym, arith}
use Rattle.le_english.proofs.Passing.{walk-leaves, walk-rest, parts-end}
use Rattle.le_english.proofs.unshown.first_parts.Goals as goal

pub loop-at-preserved : goal.loop-at-preserved
loop-at-preserved c = record {
  leaves = rw (c.leaf-leaves.ensures.leaf, c.in_ok-parts.ensures.others, c.in_ok-parts.ensures.own) (walk-leaves c.args.nodes.now c.loop-at.at c.index-nodes-at.result _ c.loop-at.parts.others c.loop-at.parts.own c.loop-at.leaves _ c.loop-at-test.true (sym c.index-nodes-at.is) (c.if-has_some.ensures.some refl) c.loop-at.invariant.leaves);
  rest = rw (c.in_ok-parts.ensures.others, c.in_ok-parts.ensures.own) (walk-rest c.args.nodes.now c.loop-at.at c.index-nodes-at.result _ c.loop-at.parts.others c.loop-at.parts.own _ c.loop-at-test.true (sym c.index-nodes-at.is) (c.if-has_some.ensures.some refl) c.loop-at.invariant.rest);
  few = omega (arith, c.loop-at.invariant.few, c.leaf-leaves.ensures.most);
  within = omega (arith, c.loop-at-test.true);
}

pub returns-else-has_some-clause-leaves : goal.returns-else-has_some-clause-leaves
returns-else-has_some-clause-leaves c =
    let none : (c.loop-at.parts.others ≡ 0) × (c.loop-at.parts.own ≡ 0) = c.if-has_some.ensures.none refl in
    parts-end c.loop-at.leaves c.loop-at.parts.others c.loop-at.parts.own _ (drop c.loop-at.at c.args.nodes.now) none.0 none.1 c.loop-at.invariant.leaves
