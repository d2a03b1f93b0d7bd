use Rattle.std.proofs.Common.{◌≡◌, ℕ, List, ◌++◌, OnOk, ap, subst, ◌∙◌}
use Rattle.le_terms.specs.Walks.{symbol_variables}
use Rattle.le_terms.proofs.Preorder.{symbol_variables-flat}
use Rattle.le_clauses.proofs.occurrences.add_term.Goals as goal

pub returns : goal.returns
returns c =
    let Added : List ℕ → Type 0 = λ vs. OnOk c.add_syms.result (c.add_syms.new.vars.items ≡ c.args.vars.now.items ++ vs) in
    subst Added (ap symbol_variables c.as_syms.ensures.symbols ∙ symbol_variables-flat c.args.term.now) c.add_syms.ensures
