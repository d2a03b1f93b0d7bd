use Rattle.std.proofs.Common.{rules, ◌<◌, arith}
use Rattle.le_goals.proofs.Walks.{order, smaller, found, passes-one, passes-none, ends}
use Rattle.le_goals.proofs.finding.find.Goals as goal

pub frames-init : goal.frames-init
frames-init c = record { any = c.requires.frames; low = c.requires.there; passed = passes-none c.args.frames.now c.args.goal c.args.place }

pub overflow_sub-count : goal.overflow_sub-count
overflow_sub-count c = order c.args.frames.now c.frames.at c.frames.invariant.low _ c.in-Before.part c.in-Before.rest c.in-Before.is c.frames.invariant.any

pub returns-in-Empty : goal.returns-in-Empty
returns-in-Empty c = λ program cells fits.
    let passed = c.frames.invariant.passed in
    ends c.args.frames.now c.frames.at c.frames.invariant.low _ c.in-Empty.field-0 c.in-Empty.is program cells c.args.goal c.args.place c.frames.left passed.parts fits
    (passed.stands program cells fits) (passed.are program cells fits) passed.count

pub returns-then-left-count : goal.returns-then-left-count
returns-then-left-count c = λ program cells fits.
    let passed = c.frames.invariant.passed in (
      passed.parts,
      found c.args.frames.now c.frames.at c.frames.invariant.low _ c.in-Before.part c.in-Before.rest c.in-Before.is program cells c.args.goal c.args.place c.frames.left passed.parts fits
          (passed.stands program cells fits) (passed.are program cells fits) passed.count (search rules),
    )

pub frames-smaller : goal.frames-smaller
frames-smaller c = smaller c.args.frames.now c.frames.at c.frames.invariant.low _ c.in-Before.part c.in-Before.rest c.in-Before.is c.frames.invariant.any

pub frames-preserved : goal.frames-preserved
frames-preserved c =
    let less : c.in-Before.rest < c.frames.at = smaller c.args.frames.now c.frames.at c.frames.invariant.low _ c.in-Before.part c.in-Before.rest c.in-Before.is c.frames.invariant.any in
    record {
      any = c.frames.invariant.any;
      low = omega (arith, less, c.frames.invariant.low);
      passed = passes-one c.args.frames.now c.frames.at c.frames.invariant.low _ c.in-Before.part c.in-Before.rest c.in-Before.is c.args.goal c.args.place c.frames.left c.frames.invariant.passed (search rules);
    }
