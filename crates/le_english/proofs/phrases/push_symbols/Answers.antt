use Rattle.std.proofs.Common.{◌+◌, ◌∙◌, ap, drop}
use Rattle.std.specs.BTreeSet.{contains}
use Rattle.std.specs.Ordering.{nat_cmp}
use Rattle.le_terms.specs.declared.term.Sym.TheVariants.{Name}
use Rattle.le_english.specs.Lines.{symbols_phrase, with_tokens}
use Rattle.le_english.proofs.SymbolLemmas.{symbol_step, seen_step}
use Rattle.le_english.proofs.phrases.push_symbols.Goals as goal

pub loop-symbol-preserved : goal.loop-symbol-preserved
loop-symbol-preserved c = (
  ap (λ b. with_tokens c.push_symbol.new.line (symbols_phrase c.args.templates.now c.args.names.now (contains nat_cmp c.note_variable.new.seen) b (drop (c.loop-symbol.symbol-index + 1) c.args.symbols.now))) c.is_cell-is_item.ensures
      ∙ symbol_step c.args.templates.now c.args.names.now (contains nat_cmp c.loop-symbol.seen) (contains nat_cmp c.note_variable.new.seen) c.loop-symbol.is_item c.args.symbols.now c.loop-symbol.symbol-index (Name 0) c.loop-symbol.line c.push_symbol.new.line _ c.loop-symbol-test.true c.in_ok-push_symbol.ensures c.in_ok-note_variable.ensures c.loop-symbol.invariant.0,
  seen_step (contains nat_cmp c.loop-symbol.seen) (contains nat_cmp c.note_variable.new.seen) c.args.symbols.now c.loop-symbol.symbol-index (Name 0) _ c.loop-symbol-test.true c.in_ok-note_variable.ensures c.loop-symbol.invariant.1,
)
