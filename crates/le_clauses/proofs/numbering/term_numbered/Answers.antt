use Rattle.std.proofs.Common.{◌≡◌, ◌∙◌, ap, map}
use Rattle.le_terms.specs.Tree.{IsTerm-flat, flat, tree_of, tree_of-flat}
use Rattle.le_terms.specs.Variables.{replaced}
use Rattle.le_terms.proofs.Preorder.{IsInRange-renamed}
use Rattle.le_clauses.specs.Groups.{number_in}
use Rattle.le_clauses.specs.Numbers.{by_place, numbered_sym}
use Rattle.le_clauses.proofs.NumberSteps.{numbered-flat}
use Rattle.le_clauses.proofs.numbering.term_numbered.Goals as goal

pub from_syms-requires : goal.from_syms-requires
from_syms-requires c =
    let vars = c.args.vars.now in
    let same : c.in_ok-syms.syms.items ≡ flat (replaced (by_place vars) c.args.term.now) =
    c.in_ok-syms.ensures ∙ (ap (map (numbered_sym vars)) c.as_syms.ensures.symbols ∙ numbered-flat vars c.args.term.now) in
    IsTerm-flat (replaced (by_place vars) c.args.term.now) c.in_ok-syms.syms.items same (IsInRange-renamed (number_in vars) c.args.term.now c.as_syms.ensures.in_range)

pub returns : goal.returns
returns c =
    let vars = c.args.vars.now in
    let same : c.in_ok-syms.syms.items ≡ flat (replaced (by_place vars) c.args.term.now) =
    c.in_ok-syms.ensures ∙ (ap (map (numbered_sym vars)) c.as_syms.ensures.symbols ∙ numbered-flat vars c.args.term.now) in
    c.from_syms.ensures.term ∙ (ap tree_of same ∙ tree_of-flat (replaced (by_place vars) c.args.term.now))
