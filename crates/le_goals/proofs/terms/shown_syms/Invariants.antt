use Rattle.std.proofs.Common.{◌≡◌, ◌++◌, ◌+◌, drop}
use Rattle.std.specs.List.{AllByRecursion}
use Rattle.le_terms.specs.Walks.{symbol_variables}
use Rattle.le_subst.specs.Symbols.{AreSymbols, images}
use Rattle.le_store.specs.Shown.{IsThere}
use Rattle.le_goals.specs.Copies.{cell_symbols}
use Rattle.le_goals.proofs.terms.shown_syms.Given as goal

-- the symbols so far, with what is left as the cells show it, are all of it
abbrev pub invariant-loop-sym : goal.invariant-loop-sym
invariant-loop-sym l = record {
  all : l.new.items ++ images (cell_symbols l.store.now l.base) (drop l.sym-index l.syms) ≡ images (cell_symbols l.store.now l.base) l.syms;
  made : AreSymbols l.new.items;
  left : AreSymbols (drop l.sym-index l.syms);
  there : AllByRecursion (λ v. IsThere l.store (l.base + v)) (symbol_variables (drop l.sym-index l.syms));
}
