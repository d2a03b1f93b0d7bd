use Rattle.std.proofs.Common.{refl}
use Rattle.le_listing.specs.ClauseText.{marked, all_marked}
use Rattle.le_listing.proofs.Steps.{one_more}
use Rattle.le_listing.proofs.terms.push_all.Goals as goal

pub loop-term-preserved : goal.loop-term-preserved
loop-term-preserved c =
    let names = c.args.names.now in
    let vars = c.args.vars.now in
    one_more (all_marked names vars) (marked names vars c.term-item.result) c.args.terms.now c.loop-term.term-index c.term-item.result c.loop-term.text c.push_marked.new.text _
    c.loop-term-test.true c.term-item.is refl c.in_ok-push_marked.ensures c.loop-term.invariant
