use Rattle.std.proofs.Common.{◌∙◌, sym, arith}
use Rattle.le_conds.proofs.GatherLemmas.{no_each, no_gather}
use Rattle.le_conds.proofs.openers.gather_seen.Goals as goal

pub loop-k-init : goal.loop-k-init
loop-k-init c =
    let l = c.args.layout.now in
    let from = c.args.from in
    record {
      begun = omega arith;
      each = c.nothing-seen.ensures.each ∙ sym (no_each l from from (omega arith));
      such_that = c.nothing-seen.ensures.such_that ∙ sym (no_gather l from from (omega arith));
    }
