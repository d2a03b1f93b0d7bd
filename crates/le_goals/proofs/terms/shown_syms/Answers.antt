use Rattle.std.proofs.Common.{rules, ◌+◌}
use Rattle.std.proofs.lemmas.List.{get_or_default}
use Rattle.le_subst.proofs.SymbolLists.{AreSymbols-drop}
use Rattle.le_store.specs.Shown.{IsThere}
use Rattle.le_goals.specs.Copies.{cell_symbols}
use Rattle.le_goals.proofs.Symbols.{later-variables, images-step}
use Rattle.le_goals.proofs.terms.shown_syms.Goals as goal

pub loop-sym-preserved : goal.loop-sym-preserved
loop-sym-preserved c = record {
  all = images-step (cell_symbols c.args.store.now.now c.args.base) c.args.syms.now c.loop-sym.sym-index _ _ _ _ c.loop-sym-test.true (get_or_default c.args.syms.now c.loop-sym.sym-index _ _ c.loop-sym-test.true) c.in_ok-push_shown.ensures.items c.loop-sym.invariant.all;
  made = search rules;
  left = AreSymbols-drop (c.loop-sym.sym-index + 1) c.args.syms.now c.requires.in_range;
  there = later-variables (λ v. IsThere c.args.store.now (c.args.base + v)) c.args.syms.now c.loop-sym.sym-index c.loop-sym.invariant.there;
}
