use Rattle.std.proofs.Common.{rules, ◌≡◌, ◌∙◌, reverse, refl, sym}
use Rattle.le_proofs.specs.Proofs.{Leaf}
use Rattle.le_proofs.specs.SearchTree.{empty_leaf}
use Rattle.le_proofs.specs.UnderWay.{leaf_along}
use Rattle.le_derivations.specs.Paths.{AreProofs}
use Rattle.le_derivations.proofs.GoingUp.{only-proof}
use Rattle.le_derivations.proofs.leaf.proof_of.Goals as goal

pub returns : goal.returns
returns c = λ steps terms left are.
    let leaf : Leaf = leaf_along steps (empty_leaf terms left) in
    let proofs : AreProofs (reverse c.in_ok-proving.proving.nodes.items) c.in_ok-proving.proving.proofs c.in_ok-proving.proving.by leaf =
    c.in_ok-proving.ensures leaf (record { steps = steps; leaf = empty_leaf terms left; are = are; proofs_ = record { nodes_ = refl; count_ = refl; by_ = λ v. refl }; along = refl }) in
    let one : c.in_ok-proving.proving.proofs ≡ 1 = search rules in
    let turned : c.reverse.new.self.items ≡ reverse c.in_ok-proving.proving.nodes.items = search rules in
    turned ∙ (proofs.nodes_ ∙ only-proof leaf (sym proofs.count_ ∙ one))
