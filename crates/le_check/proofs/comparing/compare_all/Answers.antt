use Rattle.std.proofs.Common.{reverse, ap, sym, subst, ◌∙◌}
use Rattle.std.specs.Prelude.{option_map}
use Rattle.le_proofs.specs.SearchTree.{empty_leaf}
use Rattle.le_proofs.specs.UnderWay.{leaf_along}
use Rattle.le_proofs.specs.Derivations.{certificate_of}
use Rattle.le_proofs.specs.Replay.{first_other}
use Rattle.le_derivations.specs.Paths.{AreSteps}
use Rattle.le_check.specs.Replays.{fault_of}
use Rattle.le_check.proofs.Expected.{if-accepted, refused-is}
use Rattle.le_check.proofs.comparing.compare_all.Goals as goal

pub returns-then-not-same_nodes : goal.returns-then-not-same_nodes
returns-then-not-same_nodes c = λ p is. c.other_at.ensures
    ∙ refused-is c.args.proven p is c.args.nodes.now c.as_slice-expected.result.now (option_map fault_of c.first_other.result)
    (λ steps left are. c.as_slice-expected.ensures ∙ (c.in_ok-should.ensures steps left (subst (λ ps. AreSteps (reverse ps) steps) (sym c.deref.ensures.value) are) ∙ ap (λ ts. (certificate_of (leaf_along steps (empty_leaf ts left))).nodes) c.deref-2.ensures.value))
    (c.first_other.ensures ∙ ap (first_other c.as_slice-expected.result.now c.args.nodes.now) c.deref-then-not-same_nodes.ensures.value)
    (sym c.same_nodes.ensures ∙ c.if-not-same_nodes.true)

pub returns : goal.returns
returns c = if-accepted c.args.proven c.args.nodes.now c.as_slice-expected.result.now c.accepted.result
    (λ steps left are. c.as_slice-expected.ensures ∙ (c.in_ok-should.ensures steps left (subst (λ ps. AreSteps (reverse ps) steps) (sym c.deref.ensures.value) are) ∙ ap (λ ts. (certificate_of (leaf_along steps (empty_leaf ts left))).nodes) c.deref-2.ensures.value))
    (sym c.same_nodes.ensures ∙ c.if-not-same_nodes.false) (rw c.deref-3.ensures.value at c.accepted.ensures)
