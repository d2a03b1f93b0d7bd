use Rattle.std.proofs.Common.{◌≡◌, ◌∙◌, ℕ, ap, map}
use Rattle.le_terms.specs.Tree.{IsTerm-flat, flat, tree_of, tree_of-flat}
use Rattle.le_terms.specs.Variables.{replaced, place_in}
use Rattle.le_terms.proofs.Preorder.{IsInRange-renamed}
use Rattle.le_derivations.specs.Numbers.{key, numbered_by, renamed_symbol}
use Rattle.le_derivations.proofs.Renaming.{map_renamed-flat}
use Rattle.le_derivations.proofs.changing.numbered_term.Goals as goal

pub from_syms-requires : goal.from_syms-requires
from_syms-requires c =
    let rename : ℕ → ℕ = λ v. place_in c.args.keys.now.keys (key c.args.width c.args.scope v) in
    let same : c.in_ok-syms.syms.items ≡ flat (replaced (numbered_by c.args.keys.now.keys c.args.width c.args.scope) c.args.term.now) =
    c.in_ok-syms.ensures ∙ (ap (map (renamed_symbol rename)) c.as_syms.ensures.symbols ∙ map_renamed-flat rename c.args.term.now) in
    IsTerm-flat (replaced (numbered_by c.args.keys.now.keys c.args.width c.args.scope) c.args.term.now) c.in_ok-syms.syms.items same (IsInRange-renamed rename c.args.term.now c.as_syms.ensures.in_range)

pub returns : goal.returns
returns c =
    let rename : ℕ → ℕ = λ v. place_in c.args.keys.now.keys (key c.args.width c.args.scope v) in
    let same : c.in_ok-syms.syms.items ≡ flat (replaced (numbered_by c.args.keys.now.keys c.args.width c.args.scope) c.args.term.now) =
    c.in_ok-syms.ensures ∙ (ap (map (renamed_symbol rename)) c.as_syms.ensures.symbols ∙ map_renamed-flat rename c.args.term.now) in
    c.from_syms.ensures.term ∙ (ap tree_of same ∙ tree_of-flat (replaced (numbered_by c.args.keys.now.keys c.args.width c.args.scope) c.args.term.now))
