use Rattle.std.proofs.Common.{◌≡◌, ◌+◌, List, ℕ, ◌∙◌, refl, ap, sym, subst}
use Rattle.std.specs.List.{AllByRecursion}
use Rattle.le_terms.specs.Tree.{flat, tree_of, tree_of-flat}
use Rattle.le_terms.specs.Variables.{replaced}
use Rattle.le_terms.specs.Walks.{symbol_variables}
use Rattle.le_terms.proofs.Preorder.{symbol_variables-flat}
use Rattle.le_subst.specs.Symbols.{AreSymbols, images}
use Rattle.le_subst.proofs.SymbolLists.{AreSymbols-flat, IsTerm-symbols, images-flat}
use Rattle.le_store.specs.Shown.{IsThere}
use Rattle.le_goals.specs.Frames.{cell_term}
use Rattle.le_goals.specs.Copies.{cell_symbols}
use Rattle.le_goals.proofs.terms.shown_term.Goals as goal

pub shown_syms-requires-clause-in_range : goal.shown_syms-requires-clause-in_range
shown_syms-requires-clause-in_range c = subst AreSymbols (sym c.as_syms.ensures.symbols) (AreSymbols-flat c.args.term.now c.as_syms.ensures.in_range)

pub shown_syms-requires-clause-variables : goal.shown_syms-requires-clause-variables
shown_syms-requires-clause-variables c =
    subst (λ (vs : List ℕ). AllByRecursion (λ v. IsThere c.args.store.now (c.args.base + v)) vs) (sym (ap symbol_variables c.as_syms.ensures.symbols ∙ symbol_variables-flat c.args.term.now)) c.requires

pub from_syms-requires : goal.from_syms-requires
from_syms-requires c =
    let by = cell_term c.args.store.now.now c.args.base in
    let same : c.in_ok-syms.syms.items ≡ flat (replaced by c.args.term.now) =
    c.in_ok-syms.ensures.items ∙ (ap (images (cell_symbols c.args.store.now.now c.args.base)) c.as_syms.ensures.symbols ∙ images-flat (cell_symbols c.args.store.now.now c.args.base) by (λ v. refl) c.args.term.now) in
    IsTerm-symbols (replaced by c.args.term.now) c.in_ok-syms.syms.items same c.in_ok-syms.ensures.in_range

pub returns : goal.returns
returns c =
    let by = cell_term c.args.store.now.now c.args.base in
    let same : c.in_ok-syms.syms.items ≡ flat (replaced by c.args.term.now) =
    c.in_ok-syms.ensures.items ∙ (ap (images (cell_symbols c.args.store.now.now c.args.base)) c.as_syms.ensures.symbols ∙ images-flat (cell_symbols c.args.store.now.now c.args.base) by (λ v. refl) c.args.term.now) in
    c.from_syms.ensures.term ∙ (ap tree_of same ∙ tree_of-flat (replaced by c.args.term.now))
