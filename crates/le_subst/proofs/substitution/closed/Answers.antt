use Rattle.std.proofs.Common.{◌∙◌, ◌==◌, ap, sym, Some}
use Rattle.indexmap.specs.IndexMap.{insert_entry}
use Rattle.le_subst.specs.Unifiers.{apply}
use Rattle.le_subst.specs.Steps.{bound_after}
use Rattle.le_subst.proofs.Bindings.{insert_entry-mapped, bound_after-push}
use Rattle.le_subst.proofs.substitution.closed.Goals as goal

pub loop-var-preserved : goal.loop-var-preserved
loop-var-preserved c =
    let map = c.loop-var.map.entries in
    let rest = c.pop.new.self.items in
    let v = c.in-Some.var in
    let tree = c.in-Some.term in
    ap (λ bindings. bound_after rest (Some bindings))
    (c.in_ok-insert.ensures.entries
    ∙ (ap (insert_entry (λ x y. x == y) map v) c.in_ok-image.ensures ∙ insert_entry-mapped map v (apply map tree)))
    ∙ (sym (bound_after-push rest v tree (Some map))
    ∙ (ap (λ bindings. bound_after bindings (Some map)) (sym c.in-Some.ensures.items) ∙ c.loop-var.invariant))
