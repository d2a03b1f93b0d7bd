use Rattle.std.proofs.Common.{◌≡◌, ◌∙◌, refl, ap, sym, subst}
use Rattle.le_terms.specs.Tree.{flat, tree_of, tree_of-flat}
use Rattle.le_subst.specs.Unifiers.{value_at, apply}
use Rattle.le_subst.specs.Symbols.{AreSymbols, images, map_image}
use Rattle.le_subst.proofs.SymbolLists.{AreSymbols-flat, IsTerm-symbols, images-flat}
use Rattle.le_subst.proofs.substitution.applied.Goals as goal

pub applied_syms-requires : goal.applied_syms-requires
applied_syms-requires c = subst AreSymbols (sym c.as_syms.ensures.symbols) (AreSymbols-flat c.args.term.now c.as_syms.ensures.in_range)

pub from_syms-requires : goal.from_syms-requires
from_syms-requires c =
    let map = c.args.map.now.entries in
    let same : c.in_ok-syms.syms.items ≡ flat (apply map c.args.term.now) =
    c.in_ok-syms.ensures.items ∙ (ap (images (map_image map)) c.as_syms.ensures.symbols ∙ images-flat (map_image map) (value_at map) (λ v. refl) c.args.term.now) in
    IsTerm-symbols (apply map c.args.term.now) c.in_ok-syms.syms.items same c.in_ok-syms.ensures.symbols

pub returns : goal.returns
returns c =
    let map = c.args.map.now.entries in
    let same : c.in_ok-syms.syms.items ≡ flat (apply map c.args.term.now) =
    c.in_ok-syms.ensures.items ∙ (ap (images (map_image map)) c.as_syms.ensures.symbols ∙ images-flat (map_image map) (value_at map) (λ v. refl) c.args.term.now) in
    c.from_syms.ensures.term ∙ (ap tree_of same ∙ tree_of-flat (apply map c.args.term.now))
