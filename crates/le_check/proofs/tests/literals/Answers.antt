use Rattle.std.proofs.Common.{sym, subst, add-one}
use Rattle.le_check.proofs.Built.{AreBuilt, built-push}
use Rattle.le_check.proofs.tests.literals.Goals as goal

pub loop-place-preserved : goal.loop-place-preserved
loop-place-preserved c =
    subst (AreBuilt c.push.new.self.items) (sym (add-one c.loop-place.place))
    (built-push c.loop-place.literals.items c.push.new.self.items c.in_ok-form.field-0 1 c.loop-place.place c.loop-place.invariant c.in_ok-form.ensures.stands c.in_ok-form.ensures.arity c.in_ok-form.ensures.variables c.in_ok-push.ensures.items)
