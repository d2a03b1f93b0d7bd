use Rattle.std.proofs.Common.{◌≡◌, Some, sym, subst}
use Rattle.std.specs.List.{AllByRecursion}
use Rattle.le_prooftext.specs.Words.{IsSymbol}
use Rattle.le_prooftext.specs.Reading.{symbols_from}
use Rattle.le_prooftext.proofs.TreeLemmas.{symbols-of_words}
use Rattle.le_prooftext.proofs.reading.terms_from.Goals as goal

pub trees_from-requires : goal.trees_from-requires
trees_from-requires c =
    let read : symbols_from c.args.words.now ≡ Some c.in-Some.symbols.items = sym (rw c.in-Some.is at c.in_ok-symbols.ensures) in
    subst (AllByRecursion IsSymbol) (sym c.as_slice.ensures.value) (symbols-of_words c.args.words.now c.in-Some.symbols.items read c.requires)
