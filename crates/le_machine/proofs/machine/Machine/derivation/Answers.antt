use Rattle.std.proofs.Common.{◌≡◌, reverse, ap, subst, sym, ◌∙◌, Some, option_map}
use Rattle.le_proofs.specs.Proofs.{Leaf}
use Rattle.le_proofs.specs.SearchTree.{empty_leaf}
use Rattle.le_proofs.specs.Derivations.{certificate_of}
use Rattle.le_proofs.specs.UnderWay.{leaf_along}
use Rattle.le_proofs.specs.declared.next.Next.TheVariants.{Answer}
use Rattle.le_derivations.specs.Paths.{AreSteps}
use Rattle.le_machine.specs.declared.phase.Phase.TheVariants.{Told}
use Rattle.le_machine.specs.State.{IsAtLeaf, Stands, last_derivation}
use Rattle.le_machine.proofs.Turning.{ok-all}
use Rattle.le_machine.proofs.machine.Machine.derivation.Goals as goal

pub returns : goal.returns
returns c =
    let m = c.self.inside in
    let told : m.phase ≡ Told Answer = ap (λ s. s.phase) c.self.view_is ∙ c.requires in
    let at : IsAtLeaf m.program.now m.budget m.given m.left m.searches m.terms.items = subst (λ phase. Stands phase m.program.now m.budget m.given m.left m.searches m.terms.items) told c.self.invariant.stands in
    let steps : AreSteps (reverse c.deref.result.now) at.steps = subst (λ ps. AreSteps (reverse ps) at.steps) (sym c.deref.ensures.value) at.steps_ in
    ok-all _ _
    (λ derivation made.
    ap last_derivation (sym c.self.view_is)
    ∙ (ap (option_map (λ (leaf : Leaf). (certificate_of leaf).nodes)) at.place
    ∙ ap Some (sym (made at.steps m.left steps ∙ ap (λ ts. (certificate_of (leaf_along at.steps (empty_leaf ts m.left))).nodes) c.deref-2.ensures.value)))) c.derivation_of.result c.derivation_of.ensures
