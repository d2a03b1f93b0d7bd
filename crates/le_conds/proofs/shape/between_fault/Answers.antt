use Rattle.std.proofs.Common.{sym, ap, ◌∙◌, arith, nat_le}
use Rattle.le_base.specs.declared.code.Code.TheVariants.{BadIndent}
use Rattle.le_conds.specs.declared.entry.Entry.{Entry}
use Rattle.le_conds.specs.Members.{Member}
use Rattle.le_conds.specs.Faults.{between_faults, fault_if, least_onto}
use Rattle.le_conds.proofs.StackLemmas.{fold_none, fold_step, fold_all}
use Rattle.le_conds.proofs.shape.between_fault.Goals as goal

pub loop-k-init : goal.loop-k-init
loop-k-init c = record {
  high = omega arith;
  found = λ ms same. fold_none (between_faults c.args.column) ms c.args.least;
}

pub loop-k-preserved : goal.loop-k-preserved
loop-k-preserved c = record {
  high = omega arith;
  found = λ ms same. fold_step (between_faults c.args.column) ms c.args.members.now c.loop-k.k _ c.args.least c.loop-k.found _ same c.loop-k-test.true (c.loop-k.invariant.found ms same)
      (λ (m : Member) e. c.sooner_if-found.ensures ∙ ap (λ (x : Entry). least_onto (fault_if (nat_le x.column c.args.column) BadIndent x.at) c.loop-k.found) (sym e));
}

pub returns : goal.returns
returns c = λ ms same. fold_all (between_faults c.args.column) ms c.args.members.now c.loop-k.k c.args.least c.loop-k.found same (omega arith) (c.loop-k.invariant.found ms same)
