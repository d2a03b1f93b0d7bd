use Rattle.std.proofs.Common.{◌≡◌, subst, List, ℕ, map, IfOk}
use Rattle.le_terms.specs.Tree.{variable}
use Rattle.le_terms.specs.Variables.{replaced, place_in}
use Rattle.le_terms.proofs.variables.canonical.Goals as goal

pub returns : goal.returns
returns c =
    let Renumbered : List ℕ → Type 0 = λ vars. IfOk c.renumber_terms.result (λ new. new.items ≡ map (replaced (λ v. variable (place_in vars v))) c.args.terms.now) in
    subst Renumbered c.in_ok-vars.ensures c.renumber_terms.ensures
