use Rattle.std.proofs.Common.{◌∙◌, ap, arith, flat_map}
use Rattle.le_conds.specs.Faults.{part_faults, least_onto}
use Rattle.le_conds.proofs.StackLemmas.{drop_none}
use Rattle.le_conds.proofs.LoopLemmas.{parts_none, parts_back}
use Rattle.le_conds.proofs.splitting.parts_fault.Goals as goal

pub loop-k-init : goal.loop-k-init
loop-k-init c = record { high = omega arith; found = parts_none c.args.layout.now c.args.entries.now c.args.least }

pub loop-k-preserved : goal.loop-k-preserved
loop-k-preserved c = record {
  high = omega arith;
  found = parts_back c.args.layout.now c.args.entries.now c.loop-k.k _ c.args.least c.loop-k.fault _ c.loop-k-test.true c.part_fault-fault.ensures c.loop-k.invariant.found;
}

pub returns : goal.returns
returns c = c.loop-k.invariant.found ∙ ap (λ xs. least_onto (flat_map (part_faults c.args.layout.now) xs) c.args.least) (drop_none c.args.entries.now c.loop-k.k (omega (arith, c.loop-k-test.false)))
