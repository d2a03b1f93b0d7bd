use Rattle.le_terms.specs.declared.term.Sym.TheVariants.{Name}
use Rattle.le_prooftext.proofs.WrittenLines.{symbols_more}
use Rattle.le_prooftext.proofs.writing.push_term.Goals as goal

pub loop-symbol-preserved : goal.loop-symbol-preserved
loop-symbol-preserved c =
    symbols_more c.as_syms-symbol-items.result.now c.loop-symbol.symbol-index (Name 0) c.args.text.now c.loop-symbol.text c.push_spaced.new.text c.loop-symbol-test.true c.loop-symbol.invariant c.in_ok-push_spaced.ensures
