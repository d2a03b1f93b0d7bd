use Rattle.std.proofs.Common.{◌≡◌, ◌∙◌, ℕ, List, OnOk, ap, subst}
use Rattle.le_terms.specs.Walks.{symbol_variables, all_noted}
use Rattle.le_terms.proofs.Preorder.{symbol_variables-flat}
use Rattle.le_listing.proofs.variables.note_term.Goals as goal

pub returns : goal.returns
returns c =
    let Noted : List ℕ → Type 0 = λ vs. OnOk c.note_syms.result (c.note_syms.new.set.keys ≡ all_noted c.args.set.now.keys vs) in
    subst Noted (ap symbol_variables c.as_syms.ensures.symbols ∙ symbol_variables-flat c.args.term.now) c.note_syms.ensures
