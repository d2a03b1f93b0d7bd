use Rattle.std.proofs.Common.{◌≡◌, reverse, ap, subst, sym, ◌∙◌, Some, option_map}
use Rattle.le_proofs.specs.Proofs.{Leaf}
use Rattle.le_proofs.specs.Derivations.{certificate_of}
use Rattle.le_proofs.specs.declared.next.Next.TheVariants.{Answer}
use Rattle.le_paths.specs.Paths.{LeadHere}
use Rattle.le_cells.specs.declared.phase.Phase.TheVariants.{Told}
use Rattle.le_cells.specs.State.{IsAtLeaf, Stands, last_derivation}
use Rattle.le_cells.proofs.Turning.{ok-all}
use Rattle.le_cells.proofs.machine.Machine.derivation.Goals as goal

pub returns : goal.returns
returns c =
    let m = c.self.inside in
    let told : m.phase ≡ Told Answer = ap (λ s. s.phase) c.self.view_is ∙ c.requires in
    let at : IsAtLeaf m.program.now m.budget m.given m.left m.goals m.searches m.leaf = subst (λ phase. Stands phase m.program.now m.budget m.given m.left m.goals m.searches m.leaf) told c.self.invariant.stands in
    let steps : LeadHere m.goals.now (reverse c.deref.result.now) at.steps = subst (λ ps. LeadHere m.goals.now (reverse ps) at.steps) (sym c.deref.ensures.value) at.steps_ in
    ok-all _ _
    (λ derivation made.
    ap last_derivation (sym c.self.view_is)
    ∙ (ap (option_map (λ (leaf : Leaf). (certificate_of leaf).nodes)) at.place ∙ ap Some (sym (made at.steps m.left steps)))) c.derivation_along.result c.derivation_along.ensures
