use Rattle.std.proofs.Common.{rules, ◌<◌, arith}
use Rattle.le_goals.proofs.Walks.{order, smaller, found, passed-one, passed-parts, passed-count, ends}
use Rattle.le_goals.proofs.parting.walk.Goals as goal

pub overflow_sub-count : goal.overflow_sub-count
overflow_sub-count c = order c.args.frames.now c.frames.at c.frames.invariant.low _ c.in-Before.part c.in-Before.rest c.in-Before.is c.frames.invariant.any

pub returns-in-Empty : goal.returns-in-Empty
returns-in-Empty c = λ program cells fits.
    ends c.args.frames.now c.frames.at c.frames.invariant.low _ c.in-Empty.field-0 c.in-Empty.is program cells c.args.goal c.args.place c.frames.left c.frames.passed.items fits
    (c.frames.invariant.stands program cells fits) (c.frames.invariant.passed_ program cells fits) c.frames.invariant.place_

pub returns-then-left-count : goal.returns-then-left-count
returns-then-left-count c = λ program cells fits.
    found c.args.frames.now c.frames.at c.frames.invariant.low _ c.in-Before.part c.in-Before.rest c.in-Before.is program cells c.args.goal c.args.place c.frames.left c.frames.passed.items fits
    (c.frames.invariant.stands program cells fits) (c.frames.invariant.passed_ program cells fits) c.frames.invariant.place_ (search rules)

pub frames-smaller : goal.frames-smaller
frames-smaller c = smaller c.args.frames.now c.frames.at c.frames.invariant.low _ c.in-Before.part c.in-Before.rest c.in-Before.is c.frames.invariant.any

pub frames-preserved : goal.frames-preserved
frames-preserved c =
    let less : c.in-Before.rest < c.frames.at = smaller c.args.frames.now c.frames.at c.frames.invariant.low _ c.in-Before.part c.in-Before.rest c.in-Before.is c.frames.invariant.any in
    record {
      any = c.frames.invariant.any;
      low = omega (arith, less, c.frames.invariant.low);
      stands = λ program cells fits. passed-one c.args.frames.now c.frames.at c.frames.invariant.low _ c.in-Before.part c.in-Before.rest c.in-Before.is program cells c.args.goal c.frames.passed.items c.push.new.self.items fits (c.frames.invariant.stands program cells fits) c.in_ok-push.ensures.items;
      passed_ = λ program cells fits. passed-parts c.args.frames.now c.frames.at c.frames.invariant.low _ c.in-Before.part c.in-Before.rest c.in-Before.is program cells c.frames.passed.items c.push.new.self.items fits (c.frames.invariant.passed_ program cells fits) c.in_ok-push.ensures.items;
      place_ = passed-count c.args.frames.now c.frames.at c.frames.invariant.low _ c.in-Before.part c.in-Before.rest c.in-Before.is c.frames.passed.items c.push.new.self.items c.frames.left c.args.place c.frames.invariant.place_ c.in_ok-push.ensures.items (search rules);
    }
