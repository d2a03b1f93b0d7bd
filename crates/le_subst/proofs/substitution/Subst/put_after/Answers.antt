use Rattle.std.proofs.Common.{◌≡◌, ◌∙◌, ap}
use Rattle.le_subst.specs.Unifiers.{Bindings, overridden, apply, value_at}
use Rattle.le_subst.proofs.Composing.{overridden-after}
use Rattle.le_subst.proofs.substitution.Subst.put_after.Goals as goal

pub returns : goal.returns
returns c = λ v.
    let own : Bindings = c.self.inside.map.entries in
    let first : Bindings = c.first.inside.map.entries in
    let same_own : own ≡ c.args.self.now = cc (c.self.view_is) in
    let same_first : first ≡ c.args.first.now = cc (c.first.view_is) in
    c.in_ok-override_by.ensures v
    ∙ (ap (λ is. overridden own is v) c.in_ok-images.ensures
    ∙ (overridden-after own first v
    ∙ (ap (λ b. apply b (value_at first v)) same_own ∙ ap (λ b. apply c.args.self.now (value_at b v)) same_first)))
