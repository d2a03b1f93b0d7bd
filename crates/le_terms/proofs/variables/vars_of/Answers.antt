use Rattle.std.proofs.Common.{◌≡◌, ◌∙◌, [], ap, subst, List, ℕ, IfOk}
use Rattle.le_terms.specs.Variables.{occurrences}
use Rattle.le_terms.specs.Walks.{symbol_variables, all_noted}
use Rattle.le_terms.proofs.Firsts.{all_noted-firsts}
use Rattle.le_terms.proofs.Preorder.{symbol_variables-flat}
use Rattle.le_terms.proofs.variables.vars_of.Goals as goal

pub returns : goal.returns
returns c =
    let Copied : List ℕ → Type 0 = λ ns. IfOk c.from_slice.result (λ vars. vars.items ≡ ns) in
    subst Copied
    (c.as_slice.ensures.keys
    ∙ (c.in_ok-note_variables.ensures
    ∙ (ap (λ ns. all_noted ns (symbol_variables c.as_syms.result.now)) c.new-seen.ensures.empty
    ∙ (ap (λ symbols. all_noted [] (symbol_variables symbols)) c.as_syms.ensures.symbols
    ∙ (ap (all_noted []) (symbol_variables-flat c.args.term.now) ∙ all_noted-firsts (occurrences c.args.term.now))))))
    c.from_slice.ensures.items
