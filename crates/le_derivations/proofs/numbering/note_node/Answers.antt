use Rattle.std.proofs.Common.{◌∷◌, [], ◌∙◌, List, sym, ap}
use Rattle.le_terms.specs.Tree.{Tree}
use Rattle.le_terms.specs.Walks.{all_noted}
use Rattle.le_proofs.specs.Derivations.{node_terms}
use Rattle.le_derivations.specs.Numbers.{keys_of}
use Rattle.le_derivations.proofs.Noting.{noted-both}
use Rattle.le_derivations.proofs.numbering.note_node.Goals as goal

pub returns-in_ok-note_terms-in-Gather : goal.returns-in_ok-note_terms-in-Gather
returns-in_ok-note_terms-in-Gather c =
    let width = c.args.width in
    let scope = c.args.scope in
    let old = c.args.keys.now.keys in
    let first : List Tree = c.in-Gather.result ∷ [] in
    let second : List Tree = c.in-Gather.value ∷ [] in
    c.in_ok-note_terms-in-Gather.ensures
    ∙ (ap (λ ts. all_noted c.note_term-in-Gather.new.keys.keys (keys_of width scope ts)) c.as_slice.ensures
    ∙ (noted-both width scope c.note_term.new.keys.keys c.note_term-in-Gather.new.keys.keys second c.in-Gather.atom.args c.in_ok-note_term-in-Gather-2.ensures
    ∙ (noted-both width scope old c.note_term.new.keys.keys first (c.in-Gather.value ∷ c.in-Gather.atom.args) c.in_ok-note_term-in-Gather.ensures
    ∙ ap (λ n. all_noted old (keys_of width scope (node_terms n))) (sym c.in-Gather.is))))
