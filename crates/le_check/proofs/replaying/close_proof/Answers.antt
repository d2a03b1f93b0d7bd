use Rattle.std.proofs.Common.{rules, ◌≡◌, [], reverse, refl, sym, ap, subst}
use Rattle.le_proofs.specs.SearchTree.{empty_leaf}
use Rattle.le_proofs.specs.UnderWay.{leaf_along}
use Rattle.le_check.specs.Left.{ProofDone}
use Rattle.le_check.proofs.replaying.close_proof.Goals as goal

pub returns-in-None-clause-means : goal.returns-in-None-clause-means
returns-in-None-clause-means c = λ program nodes whole h.
    let none : c.args.state.now.frames.items ≡ [] = search rules in
    let done = subst (λ fs. ProofDone program nodes (reverse fs) (leaf_along h.0 (empty_leaf c.args.terms.items 0)) c.args.state.now.order.items whole) none h.2 in (
      record { leaf = leaf_along h.0 (empty_leaf c.args.terms.items 0); order = c.args.state.now.order.items },
      ap (λ w. w.answer) done,
      record { steps = h.0; are = h.1; leaf = refl; order = ap (λ v. v.items) (sym c.replace-order.ensures.value) },
    )
