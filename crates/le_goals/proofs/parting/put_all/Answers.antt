use Rattle.std.proofs.Common.{rules}
use Rattle.le_goals.proofs.Puttings.{put-grows, put-one}
use Rattle.le_goals.proofs.parting.put_all.Goals as goal

pub returns-in_err-last-clause-grows : goal.returns-in_err-last-clause-grows
returns-in_err-last-clause-grows c = λ program cells fits are low.
    put-grows program cells c.args.frames.now.items c.parts.frames.items c.put_before.new.frames.items c.args.parts.items c.parts.parts.items c.pop.new.self.items c.in-Some.part c.args.rest c.parts.last 0
    (c.parts.invariant.so_far program cells fits are low) (search rules) (c.put_before.ensures.grows program cells)

pub parts-preserved : goal.parts-preserved
parts-preserved c = record {
  so_far = λ program cells fits are low.
      put-one program cells c.args.frames.now.items c.parts.frames.items c.put_before.new.frames.items c.args.parts.items c.parts.parts.items c.pop.new.self.items c.in-Some.part c.args.rest c.parts.last c.in_ok-last.last
      (c.parts.invariant.so_far program cells fits are low) (search rules) (c.put_before.ensures.grows program cells) (c.in_ok-last.ensures.put program cells);
}
