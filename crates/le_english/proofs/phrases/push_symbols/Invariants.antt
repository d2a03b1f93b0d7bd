use Rattle.std.proofs.Common.{◌≡◌, true, drop, ℕ}
use Rattle.std.specs.BTreeSet.{contains}
use Rattle.std.specs.Ordering.{nat_cmp}
use Rattle.le_english.specs.Lines.{symbols_phrase, seen_after_all, with_tokens}
use Rattle.le_english.proofs.phrases.push_symbols.Given as goal

-- what is said so far, with what the symbols that are left say, is the whole
abbrev pub invariant-loop-symbol : goal.invariant-loop-symbol
invariant-loop-symbol l =
    (with_tokens l.line (symbols_phrase l.templates l.names (contains nat_cmp l.seen) l.is_item (drop l.symbol-index l.symbols)) ≡ with_tokens l.fn.line (symbols_phrase l.templates l.names (contains nat_cmp l.fn.seen) true l.symbols))
    × ((k : ℕ) → seen_after_all (contains nat_cmp l.seen) (drop l.symbol-index l.symbols) k ≡ seen_after_all (contains nat_cmp l.fn.seen) l.symbols k)
