use Rattle.std.proofs.Common.{◌≡◌, ◌∙◌, [], ℕ, List, sym, ap, subst, IfOk}
use Rattle.le_terms.specs.Walks.{all_noted}
use Rattle.le_terms.proofs.Firsts.{all_noted-append}
use Rattle.le_derivations.specs.Numbers.{keys_of, nodes_keys, numbered_nodes}
use Rattle.le_derivations.proofs.numbering.numbered_nodes.Goals as goal

pub returns : goal.returns
returns c =
    let width = c.args.width in
    let first : List ℕ = keys_of width 0 c.args.terms.now in
    let more : List ℕ = nodes_keys width c.args.scopes.now c.args.nodes.now in
    let Numbered : List ℕ → Type 0 = λ keys. IfOk c.renumbered.result (λ new. new.items ≡ numbered_nodes keys width c.args.scopes.now c.args.nodes.now) in
    subst Numbered
    (c.in_ok-note_nodes.ensures
    ∙ (ap (λ ns. all_noted ns more) (c.in_ok-note_terms.ensures ∙ ap (λ ns. all_noted ns first) c.new-keys.ensures.empty) ∙ sym (all_noted-append [] first more)))
    c.renumbered.ensures
