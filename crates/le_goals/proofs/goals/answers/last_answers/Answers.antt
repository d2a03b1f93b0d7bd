use Rattle.std.proofs.Common.{◌<◌, arith}
use Rattle.le_goals.proofs.Walks.{smaller}
use Rattle.le_goals.proofs.LastFrames.{leads-on, leads-end}
use Rattle.le_goals.proofs.goals.answers.last_answers.Goals as goal

pub returns-in-Empty : goal.returns-in-Empty
returns-in-Empty c = λ program cells fits. leads-end c.args.frames.now c.frames.at c.frames.invariant.low _ c.in-Empty.answers c.in-Empty.is c.args.goal c.frames.invariant.leads program cells fits

pub frames-smaller : goal.frames-smaller
frames-smaller c = smaller c.args.frames.now c.frames.at c.frames.invariant.low _ c.in-Before.part c.in-Before.rest c.in-Before.is c.frames.invariant.any

pub frames-preserved : goal.frames-preserved
frames-preserved c =
    let less : c.in-Before.rest < c.frames.at = smaller c.args.frames.now c.frames.at c.frames.invariant.low _ c.in-Before.part c.in-Before.rest c.in-Before.is c.frames.invariant.any in
    record {
      any = c.frames.invariant.any;
      low = omega (arith, less, c.frames.invariant.low);
      leads = leads-on c.args.frames.now c.frames.at c.frames.invariant.low _ c.in-Before.part c.in-Before.rest c.in-Before.is c.args.goal c.frames.invariant.leads;
    }
