use Rattle.std.proofs.Common.{◌≡◌, ◌∙◌, sym, ap}
use Rattle.le_terms.specs.Tree.{Tree, root, variable}
use Rattle.le_terms.specs.Variables.{replaced}
use Rattle.le_index.specs.Keys.{key_of_symbol}
use Rattle.le_store.specs.Shown.{term_of}
use Rattle.le_goals.specs.Frames.{cell_term}
use Rattle.le_goals.proofs.Roots.{root-variable}
use Rattle.le_goals.proofs.goals.keys.key_of_root.Goals as goal

pub returns-in-Var : goal.returns-in-Var
returns-in-Var c = λ term same.
    let is : term ≡ variable c.in-Var.var = root-variable term c.in-Var.var (same ∙ c.in-Var.is) in
    c.key_of_look.ensures c.args.store.now (term_of c.args.store.now c.cell_after.result) c.look.ensures.first
    ∙ (ap (λ n. key_of_symbol (root (term_of c.args.store.now n))) c.cell_after.ensures
    ∙ ap (λ (t : Tree). key_of_symbol (root (replaced (cell_term c.args.store.now.now c.args.base) t))) (sym is))
