use Rattle.std.proofs.Common.{rules, ◌≡◌, ◌∙◌, List, length, reverse, refl, sym, ap, ap₂}
use Rattle.le_terms.specs.Tree.{Tree}
use Rattle.le_proofs.specs.Proofs.{Leaf, packed}
use Rattle.le_proofs.specs.SearchTree.{empty_leaf}
use Rattle.le_proofs.specs.UnderWay.{leaf_along}
use Rattle.le_proofs.specs.Derivations.{certificate, proofs_nodes}
use Rattle.le_derivations.specs.Paths.{AreProofs}
use Rattle.le_derivations.proofs.GoingUp.{along-terms}
use Rattle.le_derivations.proofs.leaf.derivation_of.Goals as goal

pub returns : goal.returns
returns c = λ steps left are.
    let terms : List Tree = c.args.terms.now in
    let leaf : Leaf = leaf_along steps (empty_leaf terms left) in
    let proofs : AreProofs (reverse c.in_ok-proving.proving.nodes.items) c.in_ok-proving.proving.proofs c.in_ok-proving.proving.by leaf =
    c.in_ok-proving.ensures leaf (record { steps = steps; leaf = empty_leaf terms left; are = are; proofs_ = record { nodes_ = refl; count_ = refl; by_ = λ v. refl }; along = refl }) in
    let turned : c.deref.result.now ≡ reverse c.in_ok-proving.proving.nodes.items = search rules in
    c.from_vec.ensures
    ∙ (c.in_ok-numbered.ensures
    ∙ (ap₂ (λ n ns. (certificate terms n ns).nodes) proofs.count_ (turned ∙ proofs.nodes_)
    ∙ ap (λ ts. (certificate ts (length leaf.proofs) (proofs_nodes (packed leaf.proofs))).nodes) (sym (along-terms steps (empty_leaf terms left)))))
