use Rattle.le_clauses.proofs.NumberSteps.{literals_step}
use Rattle.le_clauses.proofs.numbering.add_literals.Goals as goal

pub loop-literal-preserved : goal.loop-literal-preserved
loop-literal-preserved c =
    literals_step c.args.literals.now c.loop-literal.literal-index c.literal-item.result c.loop-literal.vars.items c.add_form.new.vars.items _ c.loop-literal-test.true c.literal-item.is c.in_ok-add_form.ensures c.loop-literal.invariant
