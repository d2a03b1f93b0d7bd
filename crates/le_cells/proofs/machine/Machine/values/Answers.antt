use Rattle.std.proofs.Common.{◌≡◌, ◌<◌, ◌^◌, List, length, ap, subst, sym, ◌∙◌, Some, option_map}
use Rattle.le_terms.specs.Tree.{Tree}
use Rattle.le_terms.specs.Variables.{all_variables, canonical_of}
use Rattle.le_proofs.specs.Proofs.{Leaf}
use Rattle.le_proofs.specs.SearchTree.{empty_leaf}
use Rattle.le_proofs.specs.declared.next.Next.TheVariants.{Answer}
use Rattle.le_derivations.proofs.GoingUp.{along-terms}
use Rattle.le_cells.specs.declared.phase.Phase.TheVariants.{Told}
use Rattle.le_cells.specs.Keeping.{goal_now}
use Rattle.le_cells.specs.State.{IsAtLeaf, Stands, last_values}
use Rattle.le_cells.proofs.Advancing.{values-few}
use Rattle.le_cells.proofs.Turning.{ok-all}
use Rattle.le_cells.proofs.machine.Machine.values.Goals as goal

pub canonical-requires : goal.canonical-requires
canonical-requires c =
    let m = c.self.inside in
    let told : m.phase ≡ Told Answer = ap (λ s. s.phase) c.self.view_is ∙ c.requires in
    let at : IsAtLeaf m.program.now m.budget m.given m.left m.goals m.searches m.leaf = subst (λ phase. Stands phase m.program.now m.budget m.given m.left m.goals m.searches m.leaf) told c.self.invariant.stands in
    subst (λ ts. length (all_variables ts) < 2 ^ 32) (sym (c.deref.ensures.value ∙ c.in_ok-terms_at.ensures)) (values-few m.program.now m.budget m.given m.left m.goals m.searches m.leaf c.self.invariant.program_ c.self.invariant.small at)

pub returns : goal.returns
returns c =
    let m = c.self.inside in
    let told : m.phase ≡ Told Answer = ap (λ s. s.phase) c.self.view_is ∙ c.requires in
    let at : IsAtLeaf m.program.now m.budget m.given m.left m.goals m.searches m.leaf = subst (λ phase. Stands phase m.program.now m.budget m.given m.left m.goals m.searches m.leaf) told c.self.invariant.stands in
    let terms : List Tree = (goal_now m.goals m.leaf).terms in
    let seen : last_values c.args.self.now ≡ Some (canonical_of terms) =
    ap last_values (sym c.self.view_is) ∙ (ap (option_map (λ (leaf : Leaf). canonical_of leaf.terms)) at.place ∙ ap (λ ts. Some (canonical_of ts)) (along-terms at.steps (empty_leaf terms m.left))) in
    ok-all (λ values. values.items ≡ canonical_of c.deref.result.now) _ (λ values same. seen ∙ ap Some (sym (same ∙ ap canonical_of (c.deref.ensures.value ∙ c.in_ok-terms_at.ensures)))) c.canonical.result c.canonical.ensures
