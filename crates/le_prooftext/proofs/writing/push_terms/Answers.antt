use Rattle.le_prooftext.proofs.WrittenLines.{terms_more}
use Rattle.le_prooftext.proofs.writing.push_terms.Goals as goal

pub loop-term-preserved : goal.loop-term-preserved
loop-term-preserved c =
    terms_more c.args.terms.now c.loop-term.term-index c.term-item.result c.args.text.now c.loop-term.text c.push_term.new.text c.loop-term-test.true c.term-item.is c.loop-term.invariant c.in_ok-push_term.ensures
