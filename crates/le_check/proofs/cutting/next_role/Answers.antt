use Rattle.le_check.proofs.ToCome.{role-taken}
use Rattle.le_check.proofs.cutting.next_role.Goals as goal

pub returns-then-parts-gt0-clause-some : goal.returns-then-parts-gt0-clause-some
returns-then-parts-gt0-clause-some c = role-taken _ c.loop-parts.coming.items c.pop.new.self.items c.push.new.self.items c.in-Some.parts c.loop-parts.invariant c.in-Some.ensures.items c.if-parts-gt0.true c.in_ok-push.ensures.items
