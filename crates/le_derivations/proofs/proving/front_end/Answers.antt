use Rattle.std.proofs.Common.{rules, ◌≡◌, ◌+◌, ◌-◌, ◌<◌, suc, ap, ◌∙◌, length, arith}
use Rattle.le_derivations.proofs.Fronts.{front-less}
use Rattle.le_derivations.proofs.proving.front_end.Goals as goal

pub loop-parts-preserved : goal.loop-parts-preserved
loop-parts-preserved c =
    let nodes = c.args.nodes.now in
    let at = c.loop-parts.at in
    let parts = c.loop-parts.parts in
    let inside : at - 1 < length nodes = omega (arith, c.loop-parts.invariant.inside, c.if-at-gt0.true) in
    let place : at ≡ suc (at - 1) = omega (arith, c.if-at-gt0.true) in
    let count : parts ≡ suc (parts - 1) = omega (arith, c.loop-parts-test.true) in
    let more : c.in-Some.more ≡ (parts - 1) + c.parts_of.result = search rules in
    record {
      inside = omega (arith, c.loop-parts.invariant.inside);
      same = front-less nodes at (at - 1) parts (parts - 1) c.in-Some.more c.index-nodes-at.result place count inside c.index-nodes-at.is (more ∙ ap (λ n. (parts - 1) + n) c.parts_of.ensures.parts)
          ∙ c.loop-parts.invariant.same;
    }
