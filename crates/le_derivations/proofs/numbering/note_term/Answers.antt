use Rattle.std.proofs.Common.{◌∙◌, sym, ap, map, append-nil}
use Rattle.le_terms.specs.Variables.{occurrences}
use Rattle.le_terms.specs.Walks.{symbol_variables, all_noted}
use Rattle.le_terms.proofs.Preorder.{symbol_variables-flat}
use Rattle.le_derivations.specs.Numbers.{key}
use Rattle.le_derivations.proofs.numbering.note_term.Goals as goal

pub returns : goal.returns
returns c =
    c.in_ok-note_syms.ensures
    ∙ ap (λ vs. all_noted c.args.keys.now.keys (map (key c.args.width c.args.scope) vs)) (ap symbol_variables c.as_syms.ensures.symbols ∙ (symbol_variables-flat c.args.term.now ∙ sym (append-nil (occurrences c.args.term.now))))
