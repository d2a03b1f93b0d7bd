use Rattle.std.proofs.Common.{rules, ◌≡◌, ◌+◌, ◌-◌, drop, subst, ap, ◌∙◌, arith}
use Rattle.le_proofs.specs.Replay.{behind}
use Rattle.le_check.specs.Parts.{EndFrom}
use Rattle.le_check.proofs.Passing.{end-more, all-ends}
use Rattle.le_check.proofs.parts.part_ends.Goals as goal

pub loop-place-init : goal.loop-place-init
loop-place-init c = record {
  inside = omega arith;
  ends = record { all = search rules; each = λ from low high. absurd (omega arith) };
}

pub place_after-end-requires-clause-ends : goal.place_after-end-requires-clause-ends
place_after-end-requires-clause-ends c =
    let same : c.loop-place.place ≡ c.loop-place.place - 1 + 1 = omega (arith, c.loop-place-test.true) in
    subst (EndFrom c.args.nodes.now c.deref.result.now) same (rw c.deref.ensures.value c.loop-place.invariant.ends)

pub loop-place-preserved : goal.loop-place-preserved
loop-place-preserved c = record {
  inside = omega (arith, c.loop-place.invariant.inside);
  ends = end-more c.args.nodes.now c.loop-place.ends.items (c.loop-place.place - 1) c.place_after-end.result c.index-nodes-place.result (omega (arith, c.loop-place-test.true, c.loop-place.invariant.inside)) c.index-nodes-place.is
      (let same : c.loop-place.place ≡ c.loop-place.place - 1 + 1 = omega (arith, c.loop-place-test.true) in subst (EndFrom c.args.nodes.now c.loop-place.ends.items) same c.loop-place.invariant.ends)
      c.place_after-end.ensures.inside (c.place_after-end.ensures.rest ∙ ap (λ n. behind n (drop (c.loop-place.place - 1 + 1) c.args.nodes.now)) c.parts_of.ensures);
}

pub returns : goal.returns
returns c =
    let none : c.loop-place.place ≡ 0 = omega (arith, c.loop-place-test.false) in
    all-ends c.args.nodes.now c.loop-place.ends.items c.loop-place.place none c.loop-place.invariant.ends
