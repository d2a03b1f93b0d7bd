use Rattle.std.proofs.Common.{◌∙◌, sym, ap}
use Rattle.le_subst.specs.Unifiers.{overridden}
use Rattle.le_subst.proofs.Composing.{overridden-insert}
use Rattle.le_subst.proofs.substitution.override_by.Goals as goal

pub loop-var-preserved-in_ok-insert : goal.loop-var-preserved-in_ok-insert
loop-var-preserved-in_ok-insert c = λ v.
    ap (λ b. overridden b c.pop.new.self.items v) c.in_ok-insert.ensures.entries
    ∙ (overridden-insert c.loop-var.map.entries c.pop.new.self.items c.in-Some.var c.in-Some.image v
    ∙ (ap (λ is. overridden c.loop-var.map.entries is v) (sym c.in-Some.ensures.items) ∙ c.loop-var.invariant v))

pub loop-var-preserved : goal.loop-var-preserved
loop-var-preserved c = λ v.
    ap (λ b. overridden b c.pop.new.self.items v) c.in_ok-insert.ensures.entries
    ∙ (overridden-insert c.loop-var.map.entries c.pop.new.self.items c.in-Some.var c.in-Some.image v
    ∙ (ap (λ is. overridden c.loop-var.map.entries is v) (sym c.in-Some.ensures.items) ∙ c.loop-var.invariant v))
