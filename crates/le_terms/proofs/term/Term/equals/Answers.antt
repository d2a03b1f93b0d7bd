use Rattle.std.proofs.Common.{◌≡◌, ◌∙◌, sym, ap}
use Rattle.std.specs.Bool.{Decides}
use Rattle.std.proofs.lemmas.Slice.Eq.{slice_eq-Decides}
use Rattle.le_terms.specs.Tree.{tree_of, tree_of-flat, flat}
use Rattle.le_terms.proofs.Same.{same_symbol}
use Rattle.le_terms.proofs.term.Term.equals.Goals as goal

pub returns : goal.returns
returns c =
    let decides : Decides c.eq.result (c.as_syms.result.now ≡ c.as_syms-2.result.now) = slice_eq-Decides same_symbol c.as_syms.result.now c.as_syms-2.result.now c.eq.result c.eq.ensures in (
      λ yes. sym (tree_of-flat c.args.self.now)
          ∙ (ap tree_of (sym c.as_syms.ensures.symbols ∙ (decides.0 yes ∙ c.as_syms-2.ensures.symbols)) ∙ tree_of-flat c.args.other.now),
      λ same. decides.1 (c.as_syms.ensures.symbols ∙ (ap flat same ∙ sym c.as_syms-2.ensures.symbols)),
    )
