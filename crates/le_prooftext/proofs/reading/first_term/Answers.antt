use Rattle.std.proofs.Common.{◌≡◌, length, Some, ap, ◌∙◌, subst}
use Rattle.std.specs.List.{AllByRecursion}
use Rattle.le_terms.specs.Tree.{flat, tree_of, tree_of-flat, IsTerm-flat}
use Rattle.le_proofs.proofs.Alls.{all-left}
use Rattle.le_prooftext.specs.Words.{IsSymbol}
use Rattle.le_prooftext.proofs.TreeLemmas.{in_range-flat, own_symbols}
use Rattle.le_prooftext.proofs.reading.first_term.Goals as goal

pub from_syms-requires : goal.from_syms-requires
from_syms-requires c =
    let found = c.in-Some.ensures.found in
    let all = subst (AllByRecursion IsSymbol) found.1.1 c.requires in
    let own : c.in_ok-own.own.items ≡ flat found.0 = c.in_ok-own.ensures.items ∙ own_symbols found.0 c.args.symbols.now found.1.0 _ found.1.1 found.2 in
    IsTerm-flat found.0 c.in_ok-own.own.items own (in_range-flat found.0 (all-left IsSymbol (flat found.0) found.1.0 all))

pub returns-clause-every : goal.returns-clause-every
returns-clause-every c = λ tree begins.
    let size = c.in-Some.ensures.every tree begins in
    let count : c.in-Some.count ≡ length (flat tree) = cc size in
    let own : c.in_ok-own.own.items ≡ flat tree = c.in_ok-own.ensures.items ∙ own_symbols tree c.args.symbols.now begins.0 _ begins.1 count in
    ap Some (c.from_syms.ensures.term ∙ (ap tree_of own ∙ tree_of-flat tree))
