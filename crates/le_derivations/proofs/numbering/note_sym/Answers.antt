use Rattle.std.proofs.Common.{◌==◌, ◌∷◌, [], ◌∙◌, map, sym, ap}
use Rattle.indexmap.specs.IndexSet.{insert_key}
use Rattle.le_terms.specs.Walks.{symbol_variables, all_noted}
use Rattle.le_derivations.specs.Numbers.{key}
use Rattle.le_derivations.proofs.numbering.note_sym.Goals as goal

pub returns-in_ok-insert-in-Var : goal.returns-in_ok-insert-in-Var
returns-in_ok-insert-in-Var c =
    let old = c.args.keys.now.keys in
    c.in_ok-insert-in-Var.ensures.keys
    ∙ (ap (λ k. insert_key (λ x y. x == y) old k) c.key.ensures
    ∙ ap (λ s. all_noted old (map (key c.args.width c.args.scope) (symbol_variables (s ∷ [])))) (sym c.in-Var.is))
