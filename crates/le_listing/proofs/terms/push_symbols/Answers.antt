use Rattle.std.proofs.Common.{◌++◌, ◌+◌, ◌∙◌, ap, drop}
use Rattle.le_terms.specs.declared.term.Sym.TheVariants.{Name}
use Rattle.le_listing.specs.Symbols.{symbols_text}
use Rattle.le_listing.proofs.SymbolSteps.{symbol_step}
use Rattle.le_listing.proofs.terms.push_symbols.Goals as goal

pub loop-symbol-preserved : goal.loop-symbol-preserved
loop-symbol-preserved c =
    let names = c.args.names.now in
    let vars = c.args.vars.now in
    ap (λ b. c.push_symbol.new.text ++ symbols_text names vars b (drop (c.loop-symbol.symbol-index + 1) c.args.symbols.now)) c.is_cell-is_item.ensures
    ∙ symbol_step names vars c.loop-symbol.is_item c.args.symbols.now c.loop-symbol.symbol-index (Name 0) c.loop-symbol.text c.push_symbol.new.text _ c.loop-symbol-test.true c.in_ok-push_symbol.ensures c.loop-symbol.invariant
