use Rattle.std.proofs.Common.{◌≡◌, ◌+◌, ◌∙◌, sym, ap, drop, Some, arith, drop_of_length-le}
use Rattle.std.specs.Option.{option_map}
use Rattle.le_terms.proofs.Spans.{span, span-step, span-end, span-begins, begins-span, wanted_after-le}
use Rattle.le_terms.proofs.term.first_term_len.Goals as goal
use Rattle.le_terms.proofs.term.first_term_len.Goals.{Then-wanted-eq0}

-- where no tree is wanted any more, the symbols so far are one tree's
whole : (c : Then-wanted-eq0) → span 1 c.args.syms.now ≡ Some (c.loop-place.place + 1)
whole c =
    c.loop-place.invariant.all
    ∙ (span-step c.args.syms.now c.loop-place.place c.loop-place.wanted c.wanted_after-wanted.result _ c.loop-place-test.true c.loop-place.invariant.some c.wanted_after-wanted.ensures
    ∙ (ap (λ m. option_map (λ n. (c.loop-place.place + 1) + n) (span m (drop (c.loop-place.place + 1) c.args.syms.now))) c.if-wanted-eq0.true
    ∙ ap Some (omega arith)))

pub returns-then-wanted-eq0-clause-found : goal.returns-then-wanted-eq0-clause-found
returns-then-wanted-eq0-clause-found c = begins-span c.args.syms.now (c.loop-place.place + 1) (whole c)

pub returns-then-wanted-eq0-clause-every : goal.returns-then-wanted-eq0-clause-every
returns-then-wanted-eq0-clause-every c = λ tree begins. sym (whole c) ∙ span-begins tree c.args.syms.now begins

pub loop-place-preserved : goal.loop-place-preserved
loop-place-preserved c = record {
  all = c.loop-place.invariant.all
      ∙ span-step c.args.syms.now c.loop-place.place c.loop-place.wanted c.wanted_after-wanted.result _ c.loop-place-test.true c.loop-place.invariant.some c.wanted_after-wanted.ensures;
  some = omega arith;
  few = omega (arith, c.wanted_after-wanted.ensures, wanted_after-le);
}

pub returns-clause-every : goal.returns-clause-every
returns-clause-every c = λ tree begins.
    sym (c.loop-place.invariant.all
    ∙ (ap (λ symbols. option_map (λ n. c.loop-place.place + n) (span c.loop-place.wanted symbols)) (drop_of_length-le c.args.syms.now c.loop-place-test.false)
    ∙ ap (option_map (λ n. c.loop-place.place + n)) (span-end c.loop-place.wanted c.loop-place.invariant.some)))
    ∙ span-begins tree c.args.syms.now begins
