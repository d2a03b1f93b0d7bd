use Rattle.le_terms.specs.Tree.{variable}
use Rattle.le_terms.specs.Variables.{replaced, place_in}
use Rattle.le_terms.proofs.Preorder.{map_take-push}
use Rattle.le_terms.proofs.variables.renumber_terms.Goals as goal

pub loop-term-preserved : goal.loop-term-preserved
loop-term-preserved c =
    map_take-push (replaced (λ v. variable (place_in c.args.vars.now.keys v))) c.args.terms.now c.loop-term.term-index c.term-item.result c.loop-term.new.items c.push.new.self.items c.in_ok-renumber.field-0
    c.loop-term-test.true c.term-item.is c.loop-term.invariant c.in_ok-renumber.ensures c.in_ok-push.ensures.items
