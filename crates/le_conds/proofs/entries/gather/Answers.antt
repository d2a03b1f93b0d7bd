use Rattle.std.proofs.Common.{◌∙◌, sym, arith}
use Rattle.le_conds.proofs.GatherLemmas.{each_bounds, that_bounds}
use Rattle.le_conds.proofs.entries.gather.Goals as goal

pub overflow_sub-each : goal.overflow_sub-each
overflow_sub-each c = omega (arith, (each_bounds c.args.layout.now c.args.from c.args.to c.in-Some.each (sym c.gather_seen-seen.ensures.each ∙ c.in-Some.is)).0)

pub fold_at-requires-clause-inside : goal.fold_at-requires-clause-inside
fold_at-requires-clause-inside c =
    let b = each_bounds c.args.layout.now c.args.from c.args.to c.in-Some.each (sym c.gather_seen-seen.ensures.each ∙ c.in-Some.is) in
    omega (arith, b.0, b.1, c.requires.inside)

pub overflow_sub-result : goal.overflow_sub-result
overflow_sub-result c = omega (arith, (each_bounds c.args.layout.now c.args.from c.args.to c.in-Some.each (sym c.gather_seen-seen.ensures.each ∙ c.in-Some.is)).0)

pub overflow_sub-result-2 : goal.overflow_sub-result-2
overflow_sub-result-2 c = omega (arith, (that_bounds c.args.layout.now c.args.from c.args.to c.in-Some.each c.in-Some-such_that.that (sym c.gather_seen-seen.ensures.each ∙ c.in-Some.is) (sym c.gather_seen-seen.ensures.such_that ∙ c.in-Some-such_that.is)).0)
