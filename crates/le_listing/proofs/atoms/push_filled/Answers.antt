use Rattle.std.proofs.Common.{◌++◌, ◌+◌, ◌∙◌, ap, sym, drop}
use Rattle.le_terms.proofs.Preorder.{drop-item}
use Rattle.le_listing.specs.ClauseText.{filled}
use Rattle.le_listing.proofs.atoms.push_filled.Goals as goal

pub loop-part-preserved : goal.loop-part-preserved
loop-part-preserved c =
    c.in_ok-next.ensures (drop (c.loop-part.part-index + 1) c.args.parts.now)
    ∙ ap (λ ps. c.loop-part.text ++ filled c.args.names.now c.args.vars.now ps (drop c.loop-part.next c.args.args.now)) (sym (drop-item c.args.parts.now c.loop-part.part-index c.part-item.result c.loop-part-test.true c.part-item.is))
    ∙ c.loop-part.invariant
