use Rattle.std.proofs.Common.{◌∙◌, sym, arith}
use Rattle.le_builtins.proofs.ListEnds.{behind}
use Rattle.le_builtins.proofs.lists.list_end.Goals as goal

pub loop-rest-preserved : goal.loop-rest-preserved
loop-rest-preserved c =
    let step = behind c.loop-rest.rest.now c.tail_of-rest.result.now _ c.loop-rest.invariant.whole c.in-Cons.is c.tail_of-rest.ensures in
    record {
      whole = step.whole;
      items = omega (arith, step.items, c.loop-rest.invariant.items);
      end = sym step.end ∙ c.loop-rest.invariant.end;
      few = omega (arith, step.less, c.loop-rest.invariant.few);
    }
