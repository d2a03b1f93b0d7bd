use Rattle.std.proofs.Common.{◌≡◌, ◌∙◌, ap, map, sym, subst}
use Rattle.le_terms.specs.Tree.{IsTerm-flat, flat, tree_of, tree_of-flat}
use Rattle.le_terms.specs.Variables.{replaced}
use Rattle.le_terms.specs.Walks.{symbol_variables}
use Rattle.le_terms.proofs.Preorder.{symbol_variables-flat}
use Rattle.le_proofs.specs.Goals.{raised}
use Rattle.le_literals.specs.Changing.{raised_symbol, CanRaise}
use Rattle.le_literals.proofs.Raising.{map_raised-flat, IsInRange-raised}
use Rattle.le_literals.proofs.changing.raised_term.Goals as goal

pub raised_syms-requires : goal.raised_syms-requires
raised_syms-requires c = subst (CanRaise c.args.next) (sym (ap symbol_variables c.as_syms.ensures.symbols ∙ symbol_variables-flat c.args.term.now)) c.requires

pub from_syms-requires : goal.from_syms-requires
from_syms-requires c =
    let same : c.in_ok-syms.syms.items ≡ flat (replaced (raised c.args.next) c.args.term.now) =
    c.in_ok-syms.ensures ∙ (ap (map (raised_symbol c.args.next)) c.as_syms.ensures.symbols ∙ map_raised-flat c.args.next c.args.term.now) in
    IsTerm-flat (replaced (raised c.args.next) c.args.term.now) c.in_ok-syms.syms.items same (IsInRange-raised c.args.next c.args.term.now c.as_syms.ensures.in_range)

pub returns : goal.returns
returns c =
    let same : c.in_ok-syms.syms.items ≡ flat (replaced (raised c.args.next) c.args.term.now) =
    c.in_ok-syms.ensures ∙ (ap (map (raised_symbol c.args.next)) c.as_syms.ensures.symbols ∙ map_raised-flat c.args.next c.args.term.now) in
    c.from_syms.ensures.term ∙ (ap tree_of same ∙ tree_of-flat (replaced (raised c.args.next) c.args.term.now))
