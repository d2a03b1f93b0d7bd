use Rattle.std.proofs.Common.{◌≡◌, ◌++◌, true, drop}
use Rattle.le_listing.specs.Symbols.{symbols_text}
use Rattle.le_listing.proofs.terms.push_symbols.Given as goal

-- what is written so far, with what the symbols that are left write, is the whole
abbrev pub invariant-loop-symbol : goal.invariant-loop-symbol
invariant-loop-symbol l = l.text ++ symbols_text l.names l.vars l.is_item (drop l.symbol-index l.symbols) ≡ l.fn.text ++ symbols_text l.names l.vars true l.symbols
