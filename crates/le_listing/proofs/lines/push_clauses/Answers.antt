use Rattle.std.proofs.Common.{refl}
use Rattle.le_listing.specs.ClauseText.{clause_line, clause_lines}
use Rattle.le_listing.proofs.Steps.{one_more}
use Rattle.le_listing.proofs.lines.push_clauses.Goals as goal

pub loop-clause-preserved : goal.loop-clause-preserved
loop-clause-preserved c =
    one_more (clause_lines c.args.whole.now) (clause_line c.args.whole.now c.clause-item.result) c.args.clauses.now c.loop-clause.clause-index c.clause-item.result c.loop-clause.text c.push_clause.new.text _
    c.loop-clause-test.true c.clause-item.is refl c.in_ok-push_clause.ensures c.loop-clause.invariant
