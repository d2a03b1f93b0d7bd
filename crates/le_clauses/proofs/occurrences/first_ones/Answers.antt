use Rattle.std.proofs.Common.{◌≡◌, ℕ, List, IfOk, sym, ap, subst, ◌∙◌, drop_of_length-le}
use Rattle.le_terms.specs.Walks.{all_noted}
use Rattle.le_terms.proofs.Firsts.{all_noted-firsts}
use Rattle.le_clauses.proofs.occurrences.first_ones.Goals as goal

pub returns : goal.returns
returns c =
    let Copied : List ℕ → Type 0 = λ ns. IfOk c.from_slice.result (λ first. first.items ≡ ns) in
    subst Copied
    (c.as_slice.ensures.keys
    ∙ (ap (all_noted c.loop-var.seen.keys) (sym (drop_of_length-le c.args.vars.now c.loop-var-test.false))
    ∙ (c.loop-var.invariant ∙ all_noted-firsts c.args.vars.now)))
    c.from_slice.ensures.items
