use Rattle.std.proofs.Common.{◌++◌, ◌∷◌, drop, reverse, sym, ap, ◌∙◌, subst}
use Rattle.le_proofs.specs.SearchTree.{empty_leaf}
use Rattle.le_proofs.specs.UnderWay.{leaf_along}
use Rattle.le_derivations.specs.Paths.{AreSteps}
use Rattle.le_check.specs.Left.{TreeDone, ProofDone}
use Rattle.le_check.proofs.returning.after_proof.Goals as goal

pub returns : goal.returns
returns c = λ program nodes frames order whole h.
    let kept = c.in-Present.open in
    let done = subst (λ f. ProofDone program nodes (f ∷ frames) (leaf_along h.0 (empty_leaf c.args.terms.items 0)) order whole) c.in-Present.is h.2 in
    subst (λ ns. TreeDone program nodes frames ns kept.grown.found.items order (drop kept.after nodes) whole) (sym (c.in_ok-append.ensures.items ∙ ap (λ ns. kept.grown.nodes.items ++ ns) (c.in_ok-proof.ensures h.0 c.args.terms.items 0 (subst (λ ps. AreSteps (reverse ps) h.0) (sym c.deref.ensures.value) h.1)))) done
