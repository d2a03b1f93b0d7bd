use Rattle.std.proofs.Common.{◌≡◌, ◌∙◌, ap, map}
use Rattle.le_terms.specs.Tree.{IsTerm-flat, variable, flat, tree_of, tree_of-flat}
use Rattle.le_terms.specs.Variables.{replaced, place_in}
use Rattle.le_terms.specs.Walks.{renumbered}
use Rattle.le_terms.proofs.Preorder.{map_renumbered-flat, IsInRange-renamed}
use Rattle.le_terms.proofs.variables.renumber.Goals as goal

pub from_syms-requires : goal.from_syms-requires
from_syms-requires c =
    let vars = c.args.vars.now.keys in
    let same : c.in_ok-syms.syms.items ≡ flat (replaced (λ v. variable (place_in vars v)) c.args.term.now) =
    c.in_ok-syms.ensures ∙ (ap (map (renumbered vars)) c.as_syms.ensures.symbols ∙ map_renumbered-flat vars c.args.term.now) in
    IsTerm-flat (replaced (λ v. variable (place_in vars v)) c.args.term.now) c.in_ok-syms.syms.items same (IsInRange-renamed (place_in vars) c.args.term.now c.as_syms.ensures.in_range)

pub returns : goal.returns
returns c =
    let vars = c.args.vars.now.keys in
    let same : c.in_ok-syms.syms.items ≡ flat (replaced (λ v. variable (place_in vars v)) c.args.term.now) =
    c.in_ok-syms.ensures ∙ (ap (map (renumbered vars)) c.as_syms.ensures.symbols ∙ map_renumbered-flat vars c.args.term.now) in
    c.from_syms.ensures.term ∙ (ap tree_of same ∙ tree_of-flat (replaced (λ v. variable (place_in vars v)) c.args.term.now))
